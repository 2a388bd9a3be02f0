use Rattle.boxes.proofs.Judged.{Judged, by_order}
use Rattle.boxes.proofs.channels.ChannelBox.of_ends.Given as goal

abbrev pub invariant-loop-c : goal.invariant-loop-c
invariant-loop-c l = Judged by_order l.lower l.upper l.ranges l.c
