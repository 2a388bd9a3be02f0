-- The distance of a stored box.
use Rattle.std.proofs.Common.{◌≡◌, Some, sym, ap₂}
use Rattle.std.specs.List.{slice_get}
use Rattle.boxes.proofs.Ends.{lower_at, upper_at}
use Rattle.boxes.specs.Stored.{box_of}
use Rattle.boxes.specs.declared.channels.ChannelBox.{ChannelBox}
use Rattle.boxes.specs.declared.range.Range.{Range}
use Rattle.exact.specs.Optional.{◌>>=◌}
use Rattle.kind.specs.Model.{Model}
use Rattle.report.specs.Reports.{about, distance}

module _ {K : Type 0} (m : Model K) (b : ChannelBox) where
  pub distance_is : {r : Range} → slice_get b.ranges b.swept ≡ Some r → about m r.lower r.upper b.centre ≡ distance m (box_of b)
  distance_is e = sym (ap₂ (λ o n. o >>= (λ l. n >>= (λ u. about m l u b.centre))) (lower_at b.ranges b.channels b.swept b.inside e) (upper_at b.ranges b.channels b.swept b.inside e))
