use Rattle.std.proofs.Common.{◌≡◌, sym, subst, ◌∙◌, length-set, w32, to_z, of_z, rules}
use Rattle.boxes.proofs.Changes.{Between, changed_is, elsewhere, there, which}
use Rattle.boxes.proofs.channels.ChannelBox.changed.Goals as goal

pub invariant_of-result : goal.invariant_of-result
invariant_of-result c =
    let b = c.args.self.now in
    let same : c.args.centre ≡ to_z w32 (of_z w32 c.args.centre) = search rules in
    record {
      whole = length-set b.ranges c.args.channel c.args.range ∙ b.whole;
      few = b.few;
      inside = b.inside;
      centred = λ r e. subst (Between r) same (which c.args.channel b.swept
          (λ s. subst (λ r. Between r c.args.centre) (there c.args.range b.ranges c.args.channel b.swept e s) (c.requires.within s))
          (λ n. subst (Between r) (sym (c.requires.still n)) (b.centred r (elsewhere c.args.range b.ranges c.args.channel b.swept e n))));
    }

pub returns : goal.returns
returns c = changed_is c.args.self.now c.args.channel c.args.range (search rules) c.requires.held
