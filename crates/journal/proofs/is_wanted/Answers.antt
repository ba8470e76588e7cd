use Rattle.journal.proofs.is_wanted.Goals as goal

pub returns-in-Aac : goal.returns-in-Aac
returns-in-Aac c = simp c.in-Aac.is

pub returns-in-Tc : goal.returns-in-Tc
returns-in-Tc c = simp (c.is_offline.ensures, c.in-Tc.is)

pub returns-in-Arqc : goal.returns-in-Arqc
returns-in-Arqc c = simp c.in-Arqc.is
