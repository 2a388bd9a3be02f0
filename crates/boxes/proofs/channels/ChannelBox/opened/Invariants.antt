use Rattle.boxes.proofs.Judged.{Judged, by_count}
use Rattle.boxes.proofs.channels.ChannelBox.opened.Given as goal

abbrev pub invariant-loop-c : goal.invariant-loop-c
invariant-loop-c l = Judged by_count l.lower l.upper l.ranges l.c
