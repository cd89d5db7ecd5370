-- Sessions under different numbers.
use Rattle.std.proofs.Common.{◌≡◌, ◌≢◌, refl, sym, subst, ◌∙◌, ap, ap₂, ℕ, ◌==◌, Some, All, ◌+◌, ◌<◌, ◌⊎◌, inl, inr, List, [], ◌∷◌, ◌++◌, append-nil, append_assoc, arith}
use Rattle.std.proofs.lemmas.Grind.{common_steps}
use Rattle.std.proofs.lemmas.List.Elements.{filter-append}
use Rattle.graph_history.specs.declared.event.Event.{Event}
use Rattle.graph_history.specs.History.{calls, others}
use Rattle.graph_history.specs.Plain.{PlainValue, standing_of}
use Rattle.graph_history.specs.Desks.{by}
use Rattle.job_text.specs.declared.commands.Command.{Command}
use Rattle.session_desk.specs.declared.reply.Reply.{Reply}
use Rattle.session_desk.specs.Replies.{replies}
use Rattle.session_desk.specs.Sessions.{Continues, RanScript, RanAlone}
use Rattle.session_desk.specs.Texts.{IsPrintable}

-- the calls of another number are among the events of all others
pub calls_others : (h : List Event) (m n : ℕ) → n ≢ m → calls (others m h) n ≡ calls h n
calls_others [] m n apart = refl
calls_others (e ∷ h) m n apart = grind (arith, common_steps, calls_others h m n apart)

calls_stay : (old new : List Event) (m n : ℕ) → n ≢ m → others m new ≡ others m old → calls new n ≡ calls old n
calls_stay old new m n apart same = sym (calls_others new m n apart) ∙ ap (λ (l : List Event). calls l n) same ∙ calls_others old m n apart

-- a desk on which another caller went on
pub calls_kept : (old mid new : PlainValue) (m : ℕ) → mid ≡ record old { caller = m } → new.caller ≡ mid.caller → others new.caller new.front ≡ others mid.caller mid.front
    → (n : ℕ) → n ≢ m → calls new.front n ≡ calls old.front n
calls_kept old mid new m is same bond n apart =
    let caller : mid.caller ≡ m = ap (λ (v : PlainValue). v.caller) is in
    let front : mid.front ≡ old.front = ap (λ (v : PlainValue). v.front) is in
    calls_stay old.front new.front m n apart
    (ap (λ (k : ℕ). others k new.front) (sym (same ∙ caller)) ∙ bond ∙ ap₂ (λ (k : ℕ) (l : List Event). others k l) caller front)

-- a script that ran on a desk under a number without events
pub ran_alone : (old mid new : PlainValue) (n : ℕ) (script : List Command) (before after : List Reply) → mid ≡ record old { caller = n } → calls old.front n ≡ [] → before ≡ []
    → RanScript (standing_of mid) (standing_of new) script before after → RanAlone old.world n new.front script after
ran_alone old mid new n script before after is fresh none ran =
    let r : RanScript (standing_of (record old { caller = n })) (standing_of new) script [] after =
    subst (λ (v : PlainValue). RanScript (standing_of v) (standing_of new) script [] after) is (subst (λ (l : List Reply). RanScript (standing_of mid) (standing_of new) script l after) none ran) in
    let own : calls new.front n ≡ by n r.acts =
    ap (λ (l : List Event). calls l n) r.goes.grows.is ∙ filter-append (λ (e : Event). e.caller == n) old.front r.goes.grows.more
    ∙ ap (λ (l : List Event). l ++ calls r.goes.grows.more n) fresh ∙ r.goes.grows.own in
    record {
      legal = r.goes.grows.legal;
      replied = ap (λ (l : List Event). replies old.world.space script l) own ∙ r.replied ∙ ap (λ (l : List Reply). Some l) (sym r.appended);
      printable = subst (λ (l : List Reply). All (IsPrintable old.world.space) l) (sym r.appended) r.printable;
    }

-- a history that goes on begins with all that was before
pub continues_still : (h : List Event) → Continues h h
continues_still h = ([], sym (append-nil h))

pub continues_on : (old mid new : List Event) → Continues old mid → Continues mid new → Continues old new
continues_on old mid new (first, before) (second, after) =
    (first ++ second, after ∙ ap (λ (l : List Event). l ++ second) before ∙ append_assoc old first second)

-- a desk that was called under another number, and then went on
pub continues_as : (old mid : PlainValue) (n : ℕ) (new more : List Event) → mid ≡ record old { caller = n } → new ≡ mid.front ++ more → Continues old.front new
continues_as old mid n new more is grown =
    let front : mid.front ≡ old.front = ap (λ (v : PlainValue). v.front) is in
    (more, grown ∙ ap (λ (l : List Event). l ++ more) front)

-- the callers that have no part in the sessions, one session later
pub others_on : (old mid new : List Event) (place : ℕ) → ((n : ℕ) → (n ≡ 0) ⊎ (place < n) → calls mid n ≡ calls old n)
    → ((n : ℕ) → n ≢ place + 1 → calls new n ≡ calls mid n) → (n : ℕ) → (n ≡ 0) ⊎ (place + 1 < n) → calls new n ≡ calls old n
others_on old mid new place before step n (inl none) = step n (λ same. absurd (omega (arith, none, same))) ∙ before n (inl none)
others_on old mid new place before step n (inr later) = step n (λ same. absurd (omega (arith, later, same))) ∙ before n (inr (omega (arith, later)))
