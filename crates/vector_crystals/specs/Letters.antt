-- The letters of the vector crystals. A barred letter is a negative number.
use Rattle.std.specs.Prelude.{ℕ, ◌+◌, ◌*◌, List, ◌∷◌, ◌++◌, map, reverse, slice_index_or, ℤ, pos, neg_ℤ, Contains}
use Rattle.std.specs.List.{range_with_len, position_or_len}
use Rattle.std.specs.Ordering.{int_eq}
use Rattle.crystal_cartan.specs.Types.{CartanType}
use Rattle.crystal_cartan.specs.declared.types.Kind.{Kind}
use Rattle.crystal_cartan.specs.declared.types.Kind.TheVariants.{A, B, C, D}

-- the letter k with a bar
abbrev pub barred : ℕ → ℤ
barred k = neg_ℤ (pos k)

-- 1, .., n
abbrev pub unbarred_letters : ℕ → List ℤ
unbarred_letters n = map (λ k. pos k) (range_with_len 1 n)

-- n with a bar, .., 1 with a bar
abbrev pub barred_letters : ℕ → List ℤ
barred_letters n = reverse (map barred (range_with_len 1 n))

-- the letters of a kind and a rank in the order of their digits
abbrev pub letters_of : Kind → ℕ → List ℤ
letters_of A r = unbarred_letters (r + 1)
letters_of B r = unbarred_letters r ++ pos 0 ∷ barred_letters r
letters_of C r = unbarred_letters r ++ barred_letters r
letters_of D r = unbarred_letters r ++ barred_letters r

unfoldable pub letters : CartanType → List ℤ
letters t = letters_of t.kind t.rank

-- the number of letters
abbrev pub letter_count_of : Kind → ℕ → ℕ
letter_count_of A r = r + 1
letter_count_of B r = 2 * r + 1
letter_count_of C r = 2 * r
letter_count_of D r = 2 * r

abbrev pub letter_count : CartanType → ℕ
letter_count t = letter_count_of t.kind t.rank

abbrev pub IsLetter : CartanType → ℤ → Type 0
IsLetter t x = Contains (letters t) x

-- the letter with this digit, and the digit of a letter: its place in the list, from 0
abbrev pub letter_at : CartanType → ℕ → ℤ
letter_at t d = slice_index_or (letters t) d (pos 0)

abbrev pub letter_digit : CartanType → ℤ → ℕ
letter_digit t x = position_or_len (λ y. int_eq y x) (letters t)
