use Rattle.graph_history.proofs.Drawing.{may_entered, drawn_entered, drawn_full}
use Rattle.graph_history.proofs.plain_desk.PlainDesk.draw_to.Goals as goal

pub mark-requires : goal.mark-requires
mark-requires c = may_entered _ _ _ _ _ _ _ _ c.enter-entered.ensures c.in-New.is c.known.ensures.legal c.requires.there c.requires.arrow c.requires.undrawn c.requires.leads

pub returns-in-Full : goal.returns-in-Full
returns-in-Full c = drawn_full _ _ _ _ _ _ _ c.enter-entered.ensures c.in-Full.is c.known.ensures.legal c.requires.there c.requires.leads

pub returns-in-New : goal.returns-in-New
returns-in-New c = drawn_entered _ _ _ _ _ _ _ _ _ c.enter-entered.ensures c.in-New.is c.mark.ensures c.known-in-New.ensures.legal c.requires.there c.requires.leads
