use Rattle.desk.proofs.Dialogues.{dialogues_sound}
use Rattle.desk.proofs.station.Station.answer.Goals as goal

pub returns-clause-law : goal.returns-clause-law
returns-clause-law c = dialogues_sound
