use Rattle.std.proofs.Common.{◌∙◌, ap, sym, [], ◌∷◌, None}
use Rattle.graph_history.specs.declared.event.Act.TheVariants.{Drew}
use Rattle.graph_history.specs.Plain.{PlainValue, with_acts}
use Rattle.graph_history.proofs.SoundStates.{sound}
use Rattle.graph_history.proofs.Drawing.{drawn_zero}
use Rattle.graph_history.proofs.plain_desk.PlainDesk.draw_blank.Goals as goal

pub next-requires-clause-code : goal.next-requires-clause-code
next-requires-clause-code c =
    (sound c.args.self.now.world c.args.self.now.front c.known.ensures.legal).words c.args.cell c.code_at-code.result c.code_at-code.ensures

pub returns-in-None : goal.returns-in-None
returns-in-None c =
    drawn_zero c.args.self.now c.mark.new.self c.args.cell c.code_at-code.result c.args.arrow
    (c.mark.ensures ∙ ap (λ (v : PlainValue). with_acts v (Drew c.args.cell c.args.arrow None ∷ [])) c.in-None.ensures.same)
    c.known-in-None.ensures.legal c.code_at-code.ensures (sym c.in-None.ensures.value)
