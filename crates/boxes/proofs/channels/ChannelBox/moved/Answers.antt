use Rattle.std.proofs.Common.{◌≡◌, ℤ, Ok, ap, sym, subst, ◌∙◌, w32, w64, to_z, of_z, rules}
use Rattle.boxes.specs.Moving.{changed}
use Rattle.boxes.specs.Stored.{box_of, ranged_about}
use Rattle.boxes.proofs.Changes.{Between}
use Rattle.boxes.proofs.Ends.{low_end}
use Rattle.boxes.proofs.Moved.{judged_fits, moved_as}
use Rattle.boxes.proofs.Opened.{exit}
use Rattle.boxes.proofs.channels.ChannelBox.moved.Goals as goal

-- a number as the code has it
abbrev read : ℤ → ℤ
read x = to_z w64 (of_z w64 x)

pub returns-in_err-range : goal.returns-in_err-range
returns-in_err-range c = let a = c.args in exit _ c.from_residual.ensures.1
    (moved_as (box_of a.self.now) a.channel a.lower a.upper a.centre (low_end a.self.now a.channel c.if-channel-self.false)
    {l = read a.lower} {u = read a.upper} {x = read a.centre} (search rules) (search rules) (search rules) (sym (ap ranged_about c.in_err-range.was) ∙ c.judged.ensures))

pub changed-requires : goal.changed-requires
changed-requires c =
    let a = c.args in
    let f = judged_fits (box_of a.self.now) a.channel (read a.lower) (read a.upper) (read a.centre) (sym c.judged.ensures ∙ ap ranged_about c.in_ok-range.was) in
    let same : c.in_ok-range.centre ≡ to_z w32 (of_z w32 c.in_ok-range.centre) = search rules in
    record { held = c.if-channel-self.false; within = λ s. subst (Between c.in_ok-range.range) same (f.within s); still = λ n. sym same ∙ f.still n }

pub returns : goal.returns
returns c =
    let a = c.args in
    let same : to_z w32 (of_z w32 c.in_ok-range.centre) ≡ c.in_ok-range.centre = search rules in
    ap Ok c.changed.ensures ∙ ap (λ x. Ok (changed (box_of a.self.now) a.channel c.in_ok-range.range.lower c.in_ok-range.range.upper x)) same
    ∙ moved_as (box_of a.self.now) a.channel a.lower a.upper a.centre (low_end a.self.now a.channel c.if-channel-self.false)
    {l = read a.lower} {u = read a.upper} {x = read a.centre} (search rules) (search rules) (search rules) (sym (ap ranged_about c.in_ok-range.was) ∙ c.judged.ensures)
