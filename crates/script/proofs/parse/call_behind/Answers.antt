use Rattle.std.proofs.Common.{refl, inl}
use Rattle.script.proofs.Memory.{lift, sure}
use Rattle.script.proofs.Steps.{fault_is, handed, not_word}
use Rattle.script.specs.Calls.{asked_at}
use Rattle.script.proofs.parse.call_behind.Goals as goal
use Rattle.script.proofs.parse.call_behind.Goals.{in-kind+in_ok-kind_of-in-kind, in-lend+in_ok-within-in-lend+in_ok-within-in-lend-2, in-open+in_ok-opening-in-open, in-add+in_ok-line_of-in-add, in-strike, in-move+in_ok-moving-in-move, in-read+in_ok-bytes_of-in-read, in-write+in_ok-room-in-write, in-report+in_ok-index-in-report, in-record+in_ok-index-in-record, in-working+in_ok-within-in-working, in-spare+in_ok-within-in-spare}

pub returns-in_err-kind_of-in-kind : goal.returns-in_err-kind_of-in-kind
unfolding asked_at
returns-in_err-kind_of-in-kind c = rw (handed _ _ c.from_residual.ensures.1) (inl (rw (c.in-kind.is, ← c.in_err-kind_of-in-kind.ensures) refl))

pub returns-in_err-within-in-lend : goal.returns-in_err-within-in-lend
unfolding asked_at
returns-in_err-within-in-lend c = rw (handed _ _ c.from_residual-in_err-within-in-lend.ensures.1) (inl (rw (c.in-lend.is, ← c.in_err-within-in-lend.ensures) refl))

pub returns-in_err-within-in-lend-2 : goal.returns-in_err-within-in-lend-2
unfolding asked_at
returns-in_err-within-in-lend-2 c = rw (handed _ _ c.from_residual-in_err-within-in-lend-2.ensures.1) (inl (rw (c.in-lend.is, ← c.in_ok-within-in-lend.ensures, ← c.in_err-within-in-lend-2.ensures) refl))

pub returns-in_err-opening-in-open : goal.returns-in_err-opening-in-open
unfolding asked_at
returns-in_err-opening-in-open c = rw (handed _ _ c.from_residual-in_err-opening-in-open.ensures.1) (lift _ _ _ _ c.in_err-opening-in-open.ensures (λ e. rw (c.in-open.is, ← e) refl))

pub returns-in_err-line_of-in-add : goal.returns-in_err-line_of-in-add
unfolding asked_at
returns-in_err-line_of-in-add c = rw (handed _ _ c.from_residual-in_err-line_of-in-add.ensures.1) (inl (rw (c.in-add.is, ← c.in_err-line_of-in-add.ensures) refl))

pub returns-in_err-moving-in-move : goal.returns-in_err-moving-in-move
unfolding asked_at
returns-in_err-moving-in-move c = rw (handed _ _ c.from_residual-in_err-moving-in-move.ensures.1) (inl (rw (c.in-move.is, ← c.in_err-moving-in-move.ensures) refl))

pub returns-in_err-bytes_of-in-read : goal.returns-in_err-bytes_of-in-read
unfolding asked_at
returns-in_err-bytes_of-in-read c = rw (handed _ _ c.from_residual-in_err-bytes_of-in-read.ensures.1) (lift _ _ _ _ c.in_err-bytes_of-in-read.ensures (λ e. rw (c.in-read.is, ← e) refl))

pub returns-in_err-room-in-write : goal.returns-in_err-room-in-write
unfolding asked_at
returns-in_err-room-in-write c = rw (handed _ _ c.from_residual-in_err-room-in-write.ensures.1) (inl (rw (c.in-write.is, ← c.in_err-room-in-write.ensures) refl))

pub returns-in_err-index-in-report : goal.returns-in_err-index-in-report
unfolding asked_at
returns-in_err-index-in-report c = rw (handed _ _ c.from_residual-in_err-index-in-report.ensures.1) (inl (rw (c.in-report.is, ← c.in_err-index-in-report.ensures) refl))

pub returns-in_err-index-in-record : goal.returns-in_err-index-in-record
unfolding asked_at
returns-in_err-index-in-record c = rw (handed _ _ c.from_residual-in_err-index-in-record.ensures.1) (inl (rw (c.in-record.is, ← c.in_err-index-in-record.ensures) refl))

pub returns-in_err-within-in-working : goal.returns-in_err-within-in-working
unfolding asked_at
returns-in_err-within-in-working c = rw (handed _ _ c.from_residual-in_err-within-in-working.ensures.1) (inl (rw (c.in-working.is, ← c.in_err-within-in-working.ensures) refl))

pub returns-in_err-within-in-spare : goal.returns-in_err-within-in-spare
unfolding asked_at
returns-in_err-within-in-spare c = rw (handed _ _ c.from_residual-in_err-within-in-spare.ensures.1) (inl (rw (c.in-spare.is, ← c.in_err-within-in-spare.ensures) refl))

pub returns-in_default : goal.returns-in_default
unfolding asked_at
returns-in_default c = inl (rw (not_word _ _ c.in_default.not-kind, not_word _ _ c.in_default.not-lend, not_word _ _ c.in_default.not-open, not_word _ _ c.in_default.not-add, not_word _ _ c.in_default.not-strike, not_word _ _ c.in_default.not-move, not_word _ _ c.in_default.not-read, not_word _ _ c.in_default.not-write, not_word _ _ c.in_default.not-report, not_word _ _ c.in_default.not-record, not_word _ _ c.in_default.not-working, not_word _ _ c.in_default.not-spare, fault_is c.of.result _ _ c.of.ensures.word c.of.ensures.problem) refl)

pub returns : goal.returns
unfolding asked_at
returns c =
    elim c.match-word.branch [
      | in-kind+in_ok-kind_of-in-kind w ↦ inl (rw (w.call-is, w.words-is, w.in-kind.is, ← w.in_ok-kind_of-in-kind.ensures) refl)
      | in-lend+in_ok-within-in-lend+in_ok-within-in-lend-2 w ↦ inl (rw (w.call-is, w.words-is, w.in-lend.is, ← w.in_ok-within-in-lend.ensures, ← w.in_ok-within-in-lend-2.ensures) refl)
      | in-open+in_ok-opening-in-open w ↦ inl (rw (w.call-is, w.words-is, w.in-open.is, ← sure _ _ _ w.in_ok-opening-in-open.ensures) refl)
      | in-add+in_ok-line_of-in-add w ↦ inl (rw (w.call-is, w.words-is, w.in-add.is, ← w.in_ok-line_of-in-add.ensures) refl)
      | in-strike w ↦ inl (rw (w.call-is, w.words-is, w.in-strike.is) refl)
      | in-move+in_ok-moving-in-move w ↦ inl (rw (w.call-is, w.words-is, w.in-move.is, ← w.in_ok-moving-in-move.ensures) refl)
      | in-read+in_ok-bytes_of-in-read w ↦ inl (rw (w.call-is, w.words-is, w.in-read.is, ← sure _ _ _ w.in_ok-bytes_of-in-read.ensures) refl)
      | in-write+in_ok-room-in-write w ↦ inl (rw (w.call-is, w.words-is, w.in-write.is, ← w.in_ok-room-in-write.ensures) refl)
      | in-report+in_ok-index-in-report w ↦ inl (rw (w.call-is, w.words-is, w.in-report.is, ← w.in_ok-index-in-report.ensures) refl)
      | in-record+in_ok-index-in-record w ↦ inl (rw (w.call-is, w.words-is, w.in-record.is, ← w.in_ok-index-in-record.ensures) refl)
      | in-working+in_ok-within-in-working w ↦ inl (rw (w.call-is, w.words-is, w.in-working.is, ← w.in_ok-within-in-working.ensures) refl)
      | in-spare+in_ok-within-in-spare w ↦ inl (rw (w.call-is, w.words-is, w.in-spare.is, ← w.in_ok-within-in-spare.ensures) refl)
    ]
