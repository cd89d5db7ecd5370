-- Scripts command by command.
use Rattle.std.proofs.Common.{◌≡◌, refl, sym, subst, ◌∙◌, ap, ap₂, ℕ, ◌+◌, List, [], ◌∷◌, ◌++◌, length, take, slice_get, Option, Some, None, All, append-nil, append_assoc, length-append, arith}
use Rattle.std.specs.Option.{option_map, option_and_then}
use Rattle.std.proofs.lemmas.List.{take_more}
use Rattle.std.proofs.lemmas.List.Elements.{All-push, All-nil}
use Rattle.std.proofs.lemmas.Option.{get_or_from_slice_get, slice_get_within}
use Rattle.tensor_words.specs.Spaces.{SpaceType}
use Rattle.tensor_words.specs.Worlds.{WorldType}
use Rattle.graph_history.specs.declared.event.Event.{Event}
use Rattle.graph_history.specs.declared.event.Act.{Act}
use Rattle.graph_history.specs.History.{IsLegal}
use Rattle.graph_history.specs.Desks.{by, Standing, Goes, added_cells}
use Rattle.graph_history.proofs.Growing.{by_append}
use Rattle.graph_history.proofs.DeskSteps.{goes_still, goes_then}
use Rattle.job_text.specs.declared.commands.Command.{Command}
use Rattle.session_desk.specs.declared.reply.Reply.{Reply}
use Rattle.session_desk.specs.Replies.{Told, told_of, replies}
use Rattle.session_desk.specs.Sessions.{IsAsked, IsAnswered, RanScript}
use Rattle.session_desk.specs.Texts.{IsPrintable}
use Rattle.session_desk.proofs.Owing.{nothing_more, unpaid_on}

-- the first commands of a script are done, whatever commands and events come behind
pub record Going {Bond : Type 0} (old now : Standing Bond) (done : List Command) (before after : List Reply) : Type 0 where
  pub acts : List Act
  pub goes : Goes old now (length done) acts
  pub unpaid : now.unpaid ≡ old.unpaid ++ added_cells acts
  pub told : List Reply
  pub appended : after ≡ before ++ told
  pub run : (rest : List Command) (es : List Event) →
      replies old.world.space (done ++ rest) (by old.caller acts ++ es) ≡ option_map (λ rs. told ++ rs) (replies old.world.space rest es)
  pub printable : All (IsPrintable old.world.space) told

none_before : (o : Option (List Reply)) → o ≡ option_map (λ rs. [] ++ rs) o
none_before None = refl
none_before (Some rs) = refl

-- one more reply in front
pushed : (rs : List Reply) (reply : Reply) (o : Option (List Reply)) →
    option_map (λ ss. rs ++ ss) (option_map (λ ss. reply ∷ ss) o) ≡ option_map (λ ss. (rs ++ reply ∷ []) ++ ss) o
pushed rs reply None = refl
pushed rs reply (Some ss) = ap (λ (l : List Reply). Some l) (sym (append_assoc rs (reply ∷ []) ss))

one_told : (s : SpaceType) (k : Command) (rest : List Command) (es fs : List Event) (reply : Reply) → told_of s k es ≡ Some (reply, fs) →
    replies s (k ∷ rest) es ≡ option_map (λ rs. reply ∷ rs) (replies s rest fs)
one_told s k rest es fs reply e = ap (λ (t : Told). option_and_then (λ told. option_map (λ rs. told.0 ∷ rs) (replies s rest told.1)) t) e

-- the first commands, and the next
next_command : (script : List Command) (k : ℕ) (command : Command) → slice_get script k ≡ Some command → take (k + 1) script ≡ take k script ++ command ∷ []
next_command script k command e =
    take_more script k command (slice_get_within script k command e) ∙ ap (λ (c : Command). take k script ++ c ∷ []) (get_or_from_slice_get script k command command e)

-- the next command of a script is one that may be asked
pub asked_next : (w v : WorldType) (script : List Command) (k : ℕ) (command : Command) → v ≡ w → All (IsAsked w) script → slice_get script k ≡ Some command → IsAsked v command
asked_next w v script k command e all at =
    let own : IsAsked w command = subst (λ (c : Command). IsAsked w c) (get_or_from_slice_get script k command command at) (all k command (slice_get_within script k command at)) in
    subst (λ (u : WorldType). IsAsked u command) (sym e) own

module _ {Bond : Type 0} where
  pub going_start : (s : Standing Bond) (done : List Command) (before : List Reply) → done ≡ [] → IsLegal s.world s.front → Going s s done before before
  going_start s done before none legal = rw none (record {
    acts = [];
    goes = goes_still s legal;
    unpaid = nothing_more s.unpaid;
    told = [];
    appended = sym (append-nil before);
    run = λ rest es. none_before (replies s.world.space rest es);
    printable = All-nil (IsPrintable s.world.space);
  })

  going_on : (old mid new : Standing Bond) (done more_done : List Command) (k : Command) (before mid_replies after : List Reply) (reply : Reply)
      → more_done ≡ done ++ k ∷ [] → after ≡ mid_replies ++ reply ∷ [] → Going old mid done before mid_replies → IsAnswered mid new 1 k reply → Going old new more_done before after
  going_on old mid new done more_done k before mid_replies after reply one added g a =
      let world : mid.world ≡ old.world = g.goes.world in
      let here : (rest : List Event) → told_of old.world.space k (by old.caller a.acts ++ rest) ≡ Some (reply, rest) =
      λ rest. subst (λ (w : WorldType). told_of w.space k (by old.caller a.acts ++ rest) ≡ Some (reply, rest)) world
      (subst (λ (n : ℕ). told_of mid.world.space k (by n a.acts ++ rest) ≡ Some (reply, rest)) g.goes.caller (a.told rest)) in
      let long : length (done ++ k ∷ []) ≡ length done + 1 = length-append done (k ∷ []) in
      rw one (record {
        acts = g.acts ++ a.acts;
        goes = goes_then old mid new (length done) 1 (length (done ++ k ∷ [])) g.acts a.acts (omega arith) g.goes a.goes;
        unpaid = unpaid_on old.unpaid mid.unpaid new.unpaid g.acts a.acts g.unpaid a.unpaid;
        told = g.told ++ reply ∷ [];
        appended = added ∙ ap (λ (l : List Reply). l ++ reply ∷ []) g.appended ∙ append_assoc before g.told (reply ∷ []);
        run = λ rest es. ap₂ (λ (ks : List Command) (l : List Event). replies old.world.space ks l) (append_assoc done (k ∷ []) rest)
            (ap (λ (l : List Event). l ++ es) (sym (by_append old.caller g.acts a.acts)) ∙ append_assoc (by old.caller g.acts) (by old.caller a.acts) es)
            ∙ g.run (k ∷ rest) (by old.caller a.acts ++ es)
            ∙ ap (λ (o : Option (List Reply)). option_map (λ rs. g.told ++ rs) o) (one_told old.world.space k rest (by old.caller a.acts ++ es) es reply (here es))
            ∙ pushed g.told reply (replies old.world.space rest es);
        printable = All-push (IsPrintable old.world.space) g.told reply g.printable (subst (λ (w : WorldType). IsPrintable w.space reply) world a.printable);
      })

  -- the next command of a script is done
  pub going_next : (old mid new : Standing Bond) (script : List Command) (k : ℕ) (command : Command) (before mid_replies after : List Reply) (reply : Reply)
      → slice_get script k ≡ Some command → after ≡ mid_replies ++ reply ∷ [] → Going old mid (take k script) before mid_replies → IsAnswered mid new 1 command reply
      → Going old new (take (k + 1) script) before after
  going_next old mid new script k command before mid_replies after reply at added g a =
      going_on old mid new (take k script) (take (k + 1) script) command before mid_replies after reply (next_command script k command at) added g a

  pub going_end : (old new : Standing Bond) (done script : List Command) (before after : List Reply) → done ≡ script → Going old new done before after → RanScript old new script before after
  going_end old new done script before after all g = rw (← all) (record {
    acts = g.acts;
    goes = g.goes;
    unpaid = g.unpaid;
    told = g.told;
    appended = g.appended;
    printable = g.printable;
    replied = ap₂ (λ (ks : List Command) (l : List Event). replies old.world.space ks l) (sym (append-nil done)) (sym (append-nil (by old.caller g.acts)))
        ∙ g.run [] [] ∙ ap (λ (l : List Reply). Some l) (append-nil g.told);
  })
