-- A seat takes in another: the view that is made of both fits into the same history.
use Rattle.std.proofs.Common.{◌≡◌, ◌≢◌, refl, sym, ap, subst, ◌∙◌, ℕ, ◌+◌, ◌<◌, ◌≤◌, ◌⊎◌, inl, inr, Bool, true, false, nat_eq, if◌then◌else◌, List, [], ◌∷◌, ◌++◌, length, set, Contains, append-nil, length-append, arith}
use Rattle.std.specs.Prelude.{nat_lt}
use Rattle.std.proofs.lemmas.Bool.Decides.{eqb_tells}
use Rattle.std.proofs.lemmas.Grind.{common_steps}
use Rattle.std.proofs.lemmas.List.Elements.{Contains-append_left, Contains-append_right}
use mathlib.Core.Option.{some, some-injective}
use lib.ListN.{get_elem?}
use Rattle.atomic_table.proofs.Lists.{at_set, set_here, set_else}
use Rattle.list_facts.proofs.Lists.{each_cons, each_both, within}
use Rattle.shared_seats.specs.declared.view.View.{View}
use Rattle.shared_seats.specs.declared.view.Kept.{Kept}
use Rattle.shared_seats.specs.Seats.{IsPrefix, longer, calls, Role, calling, keeping, spare, HasCalls, Agrees, IsSound, Fits, HasLive, IsSeated, went, joined}
use Rattle.shared_seats.proofs.Fronts.{prefix_self, prefix_on, calls-append}
use Rattle.shared_seats.proofs.Stakes.{stakes-set, stakes-two}

module _ {E : Type 0} where
  -- of two prefixes of a list the shorter is a prefix of the longer
  prefix_shorter : (f g a b : List E) → f ++ a ≡ g ++ b → length f ≤ length g → IsPrefix f g
  prefix_shorter [] g a b e short = (g, refl)
  prefix_shorter (x ∷ f) [] a b e short = absurd (omega arith)
  prefix_shorter (x ∷ f) (y ∷ g) a b e short =
      let head : x ≡ y = cc in let tail : f ++ a ≡ g ++ b = cc in
      let rest = prefix_shorter f g a b tail (omega arith) in
      (rest.0, ap (λ (z : E). z ∷ g) (sym head) ∙ ap (λ (l : List E). x ∷ l) rest.1)

  prefix_of : (f g h : List E) → IsPrefix f h → IsPrefix g h → length f ≤ length g → IsPrefix f g
  prefix_of f g h (a, is) (b, more) short = prefix_shorter f g a b (sym is ∙ more) short

  -- the longer of two prefixes of a list
  pub longer_front : (f g h : List E) → IsPrefix f h → IsPrefix g h → IsPrefix f (longer f g) × IsPrefix g (longer f g) × IsPrefix (longer f g) h
  longer_front f g h p q = by_test (nat_lt (length f) (length g)) refl
    where
      by_test : (b : Bool) → nat_lt (length f) (length g) ≡ b
          → IsPrefix f (if b then g else f) × IsPrefix g (if b then g else f) × IsPrefix (if b then g else f) h
      by_test true is = (prefix_of f g h p q (grind (arith, common_steps)), prefix_self g, q)
      by_test false is = (prefix_self f, prefix_of g f h q p (grind (arith, common_steps)), p)

  -- a prefix as long as the list is the list
  prefix_whole : (f h : List E) → IsPrefix f h → length h ≤ length f → f ≡ h
  prefix_whole f h ([], is) long = sym (is ∙ append-nil f)
  prefix_whole f h (e ∷ more, is) long = absurd (omega (arith, ap (λ (l : List E). length l) is, length-append f (e ∷ more)))

  prefix_length : (f h : List E) → IsPrefix f h → length f ≤ length h
  prefix_length f h (more, is) = omega (arith, ap (λ (l : List E). length l) is, length-append f more)

  pub longer_whole : (f g h : List E) → IsPrefix f h → IsPrefix g h → (f ≡ h) ⊎ (g ≡ h) → longer f g ≡ h
  longer_whole f g h p q one =
      let front = longer_front f g h p q in
      prefix_whole (longer f g) h front.2
      (elim one [
        | inl is ↦ let n = prefix_length f (longer f g) front.0 in let m = ap (λ (l : List E). length l) is in omega arith
        | inr is ↦ let n = prefix_length g (longer f g) front.1 in let m = ap (λ (l : List E). length l) is in omega arith
      ])

  -- a number that has the same calls in a prefix and in the whole has them in between
  nothing_more : (xs ys zs : List E) → (xs ++ ys) ++ zs ≡ xs → ys ≡ []
  nothing_more xs [] zs e = refl
  nothing_more xs (y ∷ ys) zs e =
      absurd (omega (arith, ap (λ (l : List E). length l) e, length-append (xs ++ y ∷ ys) zs, length-append xs (y ∷ ys)))

  calls_between : (by : E → ℕ) (f g h : List E) (n : ℕ) (c : List E) → IsPrefix f g → IsPrefix g h → calls by f n ≡ c → calls by h n ≡ c → calls by g n ≡ c
  calls_between by f g h n c (a, is) (b, more) first last =
      let mid : calls by g n ≡ c ++ calls by a n = ap (λ (l : List E). calls by l n) is ∙ calls-append by f a n ∙ ap (λ (l : List E). l ++ calls by a n) first in
      let all : calls by h n ≡ (c ++ calls by a n) ++ calls by b n = ap (λ (l : List E). calls by l n) more ∙ calls-append by g b n ∙ ap (λ (l : List E). l ++ calls by b n) mid in
      mid ∙ ap (λ (l : List E). c ++ l) (nothing_more c (calls by a n) (calls by b n) (sym all ∙ last)) ∙ append-nil c

-- who has a number once the seat id has taken in another
abbrev pub rehomed : (ℕ → ℕ × Role) → ℕ → ℕ → ℕ → ℕ × Role
rehomed owner id other n = if nat_eq (owner n).0 other then (id, keeping) else owner n

rehomed_other : (owner : ℕ → ℕ × Role) (id other n j : ℕ) (r : Role) → owner n ≡ (j, r) → j ≢ other → rehomed owner id other n ≡ (j, r)
rehomed_other owner id other n j r is apart = by_test (nat_eq (owner n).0 other) refl
  where
    by_test : (b : Bool) → nat_eq (owner n).0 other ≡ b → (if b then (id, keeping) else owner n) ≡ (j, r)
    by_test true same = absurd (apart (sym (ap (λ (p : ℕ × Role). p.0) is) ∙ grind (arith, common_steps)))
    by_test false same = is

rehomed_here : (owner : ℕ → ℕ × Role) (id other n : ℕ) (r : Role) → owner n ≡ (other, r) → rehomed owner id other n ≡ (id, keeping)
rehomed_here owner id other n r is = by_test (nat_eq (owner n).0 other) refl
  where
    by_test : (b : Bool) → nat_eq (owner n).0 other ≡ b → (if b then (id, keeping) else owner n) ≡ (id, keeping)
    by_test true same = refl
    by_test false same = let e : (owner n).0 ≡ other = ap (λ (p : ℕ × Role). p.0) is in absurd (grind (arith, common_steps))

module _ {W E D : Type 0} (whole : ℕ) (by : E → ℕ) where
  agrees_between : (v : View W E D) (g h : List E) → Agrees by v v.front → Agrees by v h → IsPrefix v.front g → IsPrefix g h → Agrees by v g
  agrees_between v g h A B p q = record {
    own = record {
      mine = calls_between by v.front g h v.number v.calls p q A.own.mine B.own.mine;
      kept = λ (m : Kept E) there. calls_between by v.front g h m.number m.calls p q (A.own.kept m there) (B.own.kept m there);
    };
    none = λ n free. calls_between by v.front g h n [] p q (A.none n free) (B.none n free);
  }

  module _ (key : W) (views : List (View W E D)) (h : List E) (r : IsSeated whole by key views h) (id : ℕ) (v : View W E D) (at : get_elem? views id ≡ some v) (live : 0 < v.stake)
      (other : ℕ) (w : View W E D) (at_other : get_elem? views other ≡ some w) (live_other : 0 < w.stake) (apart : other ≢ id)
      (mix : D → D → D) (spent : View W E D) (is_spent : spent.stake ≡ 0) where
    mine : Fits whole by key r.owner h id v
    mine = r.fits id v at live

    theirs : Fits whole by key r.owner h other w
    theirs = r.fits other w at_other live_other

    abbrev pub both : View W E D
    both = joined mix v w

    abbrev first : List (View W E D)
    first = set views id both

    abbrev pub merged : List (View W E D)
    merged = set first other spent

    abbrev owner : ℕ → ℕ × Role
    owner = rehomed r.owner id other

    fronts : IsPrefix v.front both.front × IsPrefix w.front both.front × IsPrefix both.front h
    fronts = longer_front v.front w.front h mine.front theirs.front

    pub from_v : IsPrefix v.front both.front
    from_v = fronts.0

    pub from_w : IsPrefix w.front both.front
    from_w = fronts.1

    to_all : IsPrefix both.front h
    to_all = fronts.2

    abbrev taken : Kept E
    taken = record { number = w.number; calls = w.calls }

    both_agrees : (g : List E) → Agrees by v g → Agrees by w g → Agrees by both g
    both_agrees g A B = record {
      own = record {
        mine = A.own.mine;
        kept = each_both (λ (m : Kept E). calls by g m.number ≡ m.calls) v.kept (taken ∷ w.kept) A.own.kept
            (each_cons (λ (m : Kept E). calls by g m.number ≡ m.calls) taken w.kept B.own.mine B.own.kept);
      };
      none = A.none;
    }

    both_staked : v.stake + w.stake ≤ whole
    both_staked = let two = stakes-two views id other v w at at_other apart in let all = r.staked in omega arith

    both_sound : IsSound whole by both
    both_sound = record {
      live = omega arith;
      staked = both_staked;
      numbered = mine.sound.numbered;
      agrees = both_agrees both.front
          (agrees_between v both.front h mine.sound.agrees mine.agrees fronts.0 fronts.2)
          (agrees_between w both.front h theirs.sound.agrees theirs.agrees fronts.1 fronts.2);
      olds = each_both (λ (f : List E). IsPrefix f both.front) v.olds (v.front ∷ w.front ∷ w.olds)
          (λ f got. prefix_on f v.front both.front (mine.sound.olds f got) fronts.0)
          (each_cons (λ (f : List E). IsPrefix f both.front) v.front (w.front ∷ w.olds) fronts.0
          (each_cons (λ (f : List E). IsPrefix f both.front) w.front w.olds fronts.1
          (λ f got. prefix_on f w.front both.front (theirs.sound.olds f got) fronts.1)));
    }

    here : Fits whole by key owner h id both
    here = record {
      sound = both_sound;
      world_is = mine.world_is;
      front = fronts.2;
      agrees = both_agrees h mine.agrees theirs.agrees;
      owns = rehomed_other r.owner id other v.number id calling mine.owns (λ e. apart (sym e));
      owns_kept = each_both (λ (m : Kept E). owner m.number ≡ (id, keeping)) v.kept (taken ∷ w.kept)
          (λ (m : Kept E) got. rehomed_other r.owner id other m.number id keeping (mine.owns_kept m got) (λ e. apart (sym e)))
          (each_cons (λ (m : Kept E). owner m.number ≡ (id, keeping)) taken w.kept (rehomed_here r.owner id other w.number calling theirs.owns)
          (λ (m : Kept E) got. rehomed_here r.owner id other m.number keeping (theirs.owns_kept m got)));
      owns_unused = λ n free. rehomed_other r.owner id other n id spare (mine.owns_unused n free) (λ e. apart (sym e));
    }

    beside : (j : ℕ) (u : View W E D) → get_elem? views j ≡ some u → j ≢ other → 0 < u.stake → Fits whole by key owner h j u
    beside j u there away alive =
        let f = r.fits j u there alive in
        record {
          sound = f.sound;
          world_is = f.world_is;
          front = f.front;
          agrees = f.agrees;
          owns = rehomed_other r.owner id other u.number j calling f.owns away;
          owns_kept = λ (m : Kept E) got. rehomed_other r.owner id other m.number j keeping (f.owns_kept m got) away;
          owns_unused = λ n free. rehomed_other r.owner id other n j spare (f.owns_unused n free) away;
        }

    -- which live view stands at a place of the new list: the joined one, or another than the two
    which : (j : ℕ) (u : View W E D) → get_elem? merged j ≡ some u → 0 < u.stake
        → ((j ≡ id) × (both ≡ u)) ⊎ ((j ≢ id) × (j ≢ other) × (get_elem? views j ≡ some u))
    which j u there alive =
        elim (at_set first other j spent u there) [
          | inl gone ↦ let e = ap (λ (x : View W E D). x.stake) gone.1 in absurd (omega arith)
          | inr rest ↦
              elim (at_set views id j both u rest.1) [
                | inl own ↦ inl own
                | inr else_one ↦ inr (else_one.0, rest.0, else_one.1)
              ]
        ]

    -- what holds of the joined one and of the other live views holds of each live view
    pub each : (P : ℕ → View W E D → Type 0) → P id both → ((j : ℕ) (u : View W E D) → get_elem? views j ≡ some u → j ≢ other → 0 < u.stake → P j u)
        → (j : ℕ) (u : View W E D) → get_elem? merged j ≡ some u → 0 < u.stake → P j u
    each P p others j u there alive =
        elim (which j u there alive) [
          | inl mine_too ↦ subst (λ (k : ℕ). P k u) (sym mine_too.0) (subst (λ (x : View W E D). P id x) mine_too.1 p)
          | inr else_one ↦ others j u else_one.2 else_one.1 alive
        ]

    -- the places of the views
    both_at : get_elem? merged id ≡ some both
    both_at = set_else first other id spent (λ e. apart (sym e)) ∙ set_here views id both (within views v id at)

    else_at : (j : ℕ) (u : View W E D) → get_elem? views j ≡ some u → j ≢ id → j ≢ other → get_elem? merged j ≡ some u
    else_at j u there p q = set_else first other j spent q ∙ set_else views id j both p ∙ there

    pub first_at : get_elem? first other ≡ some w
    first_at = set_else views id other both apart ∙ at_other

    own_view : (j : ℕ) (u x : View W E D) → get_elem? views j ≡ some u → (i : ℕ) → get_elem? views i ≡ some x → j ≡ i → u ≡ x
    own_view j u x there i g e = some-injective u x (sym there ∙ ap (λ (k : ℕ). get_elem? views k) e ∙ g)

    -- where a live view was so, one is so yet: the joined one is, if one of the two was
    pub still : (P : View W E D → Type 0) → (P v → P both) → (P w → P both) → HasLive views P → HasLive merged P
    still P keep take (j, u, there, alive, has) =
        elim (eqb_tells j id) [
          | inl first_one ↦ (id, both, both_at, omega arith, keep (subst P (own_view j u v there id at first_one.1) has))
          | inr away ↦
              elim (eqb_tells j other) [
                | inl gone ↦ (id, both, both_at, omega arith, take (subst P (own_view j u w there other at_other gone.1) has))
                | inr else_one ↦ (j, u, else_at j u there away.1 else_one.1, alive, has)
              ]
        ]

    pub joins_up : IsSeated whole by key merged h
    joins_up = record {
      owner = owner;
      staked = let a = stakes-set first other w spent first_at in let b = stakes-set views id v both at in let c = r.staked in omega arith;
      longest = still (λ (u : View W E D). u.front ≡ h)
          (λ is. longer_whole v.front w.front h mine.front theirs.front (inl is)) (λ is. longer_whole v.front w.front h mine.front theirs.front (inr is)) r.longest;
      fits = each (Fits whole by key owner h) here beside;
    }

-- what is known once the seat goes on after a join: its front begins with both fronts, and has the calls of both
module _ {W E D : Type 0} {whole : ℕ} {by : E → ℕ} (mix : D → D → D) (v u w : View W E D) (h : List E) (dues : D) (is : w ≡ went (joined mix v u) h [] dues) (sound : IsSound whole by w) where
  old_front : (f : List E) → Contains (v.olds ++ v.front ∷ u.front ∷ u.olds) f → IsPrefix f w.front
  old_front f has = sound.olds f (subst (λ (x : View W E D). Contains x.olds f) (sym is) has)

  pub joined_fronts : IsPrefix v.front w.front × IsPrefix u.front w.front
  joined_fronts = (
    old_front v.front (Contains-append_right v.olds (v.front ∷ u.front ∷ u.olds) v.front (0, omega arith, refl)),
    old_front u.front (Contains-append_right v.olds (v.front ∷ u.front ∷ u.olds) u.front (1, omega arith, refl)),
  )

  abbrev joined_one : Kept E
  joined_one = record { number = u.number; calls = u.calls }

  kept_calls : (m : Kept E) → Contains (v.kept ++ joined_one ∷ u.kept) m → calls by w.front m.number ≡ m.calls
  kept_calls m has = sound.agrees.own.kept m (subst (λ (x : View W E D). Contains x.kept m) (sym is) has)

  pub joined_calls : HasCalls by v w.front × HasCalls by u w.front
  joined_calls = (
    record {
      mine = subst (λ (x : View W E D). calls by w.front x.number ≡ x.calls) is sound.agrees.own.mine ∙ append-nil v.calls;
      kept = λ m has. kept_calls m (Contains-append_left v.kept (joined_one ∷ u.kept) m has);
    },
    record {
      mine = kept_calls joined_one (Contains-append_right v.kept (joined_one ∷ u.kept) joined_one (0, omega arith, refl));
      kept = λ m has. kept_calls m (Contains-append_right v.kept (joined_one ∷ u.kept) m (Contains-append_right (joined_one ∷ []) u.kept m has));
    },
  )
