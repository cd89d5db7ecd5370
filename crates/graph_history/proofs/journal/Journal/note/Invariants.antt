use Rattle.graph_history.proofs.journal.Journal.note.Given as goal

abbrev pub ghosts-note_as : goal.ghosts-note_as
ghosts-note_as a = record { event = a._event }
