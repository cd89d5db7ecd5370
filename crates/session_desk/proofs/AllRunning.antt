-- Sessions one after another.
use Rattle.std.proofs.Common.{◌≡◌, ◌≢◌, sym, subst, ◌∙◌, ap, ap₂, ℕ, ◌+◌, ◌*◌, ◌<◌, ◌≤◌, inl, inr, List, [], ◌∷◌, ◌++◌, length, take, get_or, slice_get, Some, All, arith}
use Rattle.std.proofs.lemmas.Bool.{cases_lt}
use Rattle.std.proofs.lemmas.List.{get_or-take, get_or_append_left, get_or-append-add, length-append, length-take-le}
use Rattle.std.proofs.lemmas.Option.{get_or_from_slice_get, slice_get_within}
use Rattle.tensor_words.specs.Worlds.{WorldType}
use Rattle.graph_history.specs.declared.event.Event.{Event}
use Rattle.graph_history.specs.History.{calls}
use Rattle.job_text.specs.declared.commands.Command.{Command}
use Rattle.session_desk.specs.declared.reply.Reply.{Reply}
use Rattle.session_desk.specs.Replies.{replies}
use Rattle.session_desk.specs.Sessions.{AllRan, RanAlone}
use Rattle.session_desk.specs.Texts.{IsPrintable}

at_end : {X : Type 0} (xs : List X) (x d : X) (k : ℕ) → length xs ≡ k → get_or (xs ++ x ∷ []) k d ≡ x
at_end xs x d k long = let at : k ≡ length xs + 0 = omega (arith, long) in ap (λ (j : ℕ). get_or (xs ++ x ∷ []) j d) at ∙ get_or-append-add xs (x ∷ []) 0 d

-- the sessions so far, and one more
pub all_ran_on : (w v : WorldType) (old new : List Event) (scripts : List (List Command)) (k : ℕ) (script : List Command) (told after : List (List Reply)) (one : List Reply)
    → slice_get scripts k ≡ Some script → v ≡ w → after ≡ told ++ one ∷ [] → AllRan w old (take k scripts) told → RanAlone v (k + 1) new script one
    → ((n : ℕ) → n ≢ k + 1 → calls new n ≡ calls old n) → AllRan w new (take (k + 1) scripts) after
all_ran_on w v old new scripts k script told after one at same pushed before now apart =
    let below : k < length scripts = slice_get_within scripts k script at in
    let taken : length (take k scripts) ≡ k = length-take-le k scripts (omega (arith, below)) in
    let more : length (take (k + 1) scripts) ≡ k + 1 = length-take-le (k + 1) scripts (omega (arith, below)) in
    let count : length told ≡ k = before.count ∙ taken in
    let own : (j : ℕ) → j < k → get_or after j [] ≡ get_or told j [] =
    λ j lt. ap (λ (l : List (List Reply)). get_or l j []) pushed ∙ get_or_append_left told (one ∷ []) [] j (omega (arith, lt, count)) in
    let last : get_or after k [] ≡ one = ap (λ (l : List (List Reply)). get_or l k []) pushed ∙ at_end told one [] k count in
    let first : (j : ℕ) → j < k → get_or (take (k + 1) scripts) j [] ≡ get_or (take k scripts) j [] =
    λ j lt. get_or-take (k + 1) scripts j [] (omega (arith, lt)) ∙ sym (get_or-take k scripts j [] lt) in
    let this : get_or (take (k + 1) scripts) k [] ≡ script = get_or-take (k + 1) scripts k [] (omega arith) ∙ get_or_from_slice_get scripts k script [] at in
    let ran : RanAlone w (k + 1) new script one = subst (λ (u : WorldType). RanAlone u (k + 1) new script one) same now in
    record {
      legal = ran.legal;
      count = ap length pushed ∙ length-append told (one ∷ []) ∙ omega (arith, count, more);
      replied = λ j lt. elim (cases_lt j k) [
        | inl earlier ↦ ap₂ (λ (s : List Command) (l : List Event). replies w.space s l) (first j earlier) (apart (j + 1) (λ e. absurd (omega (arith, earlier, e))))
            ∙ before.replied j (omega (arith, earlier, taken)) ∙ ap (λ (l : List Reply). Some l) (sym (own j earlier))
        | inr later ↦ let here : j ≡ k = omega (arith, later, lt, more) in rw here
            (ap (λ (s : List Command). replies w.space s (calls new (k + 1))) this ∙ ran.replied ∙ ap (λ (l : List Reply). Some l) (sym last))
      ];
      printable = λ j lt. elim (cases_lt j k) [
        | inl earlier ↦ subst (λ (l : List Reply). All (IsPrintable w.space) l) (sym (own j earlier)) (before.printable j (omega (arith, earlier, taken)))
        | inr later ↦ let here : j ≡ k = omega (arith, later, lt, more) in rw here (subst (λ (l : List Reply). All (IsPrintable w.space) l) (sym last) ran.printable)
      ];
    }

pub room_on : (scripts : List (List Command)) (k : ℕ) (script : List Command) (a b c : ℕ) → All (λ (s : List Command). length s ≤ 4096) scripts → slice_get scripts k ≡ Some script
    → a ≤ b + 4096 * k → b ≤ c + length script → a ≤ c + 4096 * (k + 1)
room_on scripts k script a b c short at before now =
    let few : length script ≤ 4096 = subst (λ (s : List Command). length s ≤ 4096) (get_or_from_slice_get scripts k script script at) (short k script (slice_get_within scripts k script at)) in
    omega (arith, before, now, few)
