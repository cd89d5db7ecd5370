-- What contracts see of a source and of a sink in memory.
use Rattle.std.specs.Prelude.{ℕ, List, ◌++◌, drop, length, min, ◌-◌, ◌≡◌, ◌⊎◌, Contains}
use Rattle.crystal_streams.specs.Faults.{next_count}

-- a source in memory: the bytes still to come, the numbers of the reads that fail, the most bytes that one read
-- gives, how many reads were made and how many of them failed
pub record SourceState : Type 0 where
  pub left : List ℕ
  pub fails : List ℕ
  pub at_most : ℕ
  pub reads : ℕ
  pub faults : ℕ

-- the next read of the source fails
abbrev pub ReadFails : SourceState → Type 0
ReadFails s = Contains s.fails (next_count s.reads)

-- how many bytes a read into `space` bytes gives, where it does not fail
abbrev pub read_count : SourceState → ℕ → ℕ
read_count s space = min (min space s.at_most) (length s.left)

-- the source after a read that gave `count` bytes
abbrev pub after_read : SourceState → ℕ → SourceState
after_read s count = record s { left = drop count s.left; reads = next_count s.reads }

-- the source after a read that failed
abbrev pub after_failed_read : SourceState → SourceState
after_failed_read s = record s { reads = next_count s.reads; faults = next_count s.faults }

-- a sink in memory: the bytes taken, how many it takes in all, the numbers of the writes that fail, the most bytes
-- that one write takes, how many writes were made and how many of them failed
pub record SinkState : Type 0 where
  pub taken : List ℕ
  pub room : ℕ
  pub fails : List ℕ
  pub at_most : ℕ
  pub writes : ℕ
  pub faults : ℕ

-- the next write to the sink fails
abbrev pub WriteFails : SinkState → Type 0
WriteFails s = Contains s.fails (next_count s.writes) ⊎ (length s.taken ≡ s.room)

-- how many bytes a write of `offered` bytes takes, where it does not fail
abbrev pub write_count : SinkState → ℕ → ℕ
write_count s offered = min (min offered s.at_most) (s.room - length s.taken)

-- the sink after a write that took `piece`
abbrev pub after_write : SinkState → List ℕ → SinkState
after_write s piece = record s { taken = s.taken ++ piece; writes = next_count s.writes }

-- the sink after a write that failed
abbrev pub after_failed_write : SinkState → SinkState
after_failed_write s = record s { writes = next_count s.writes; faults = next_count s.faults }
