-- The figures of the worked examples, computed.
use Rattle.std.proofs.Common.{refl}
use Rattle.exact.specs.Floor.{ceiling, floor}
use Rattle.exact.specs.Fraction.{◌*F◌, ◌+F◌, inv_F, le_F, max_F, min_F, neg_F, over_top}
use Rattle.kind.specs.Grid.{grid_above, grid_below, inside?}
use Rattle.leb.specs.Numbers.{encode}
use Rattle.sliding.specs.Grid.{slide}
use Rattle.worked.specs.Worked.{BranchExample, BytesExample, CloseExample, ConstantExample, MagnitudeExample, ProductExample, QuotientExample, WorkedExamples}

product : ProductExample
unfolding grid_above grid_below inside? le_F max_F min_F neg_F floor ceiling ◌+F◌ ◌*F◌ encode
product = record {
  line = record { all = _; made = refl; it = _; there = refl };
  slopes = record { three = _; there = refl };
  U = (record { cross = refl }, record { cross = refl });
  U0 = (record { cross = refl }, record { cross = refl });
  A = (record { cross = refl }, record { cross = refl });
  B = (record { cross = refl }, record { cross = refl });
  C = (record { cross = refl }, record { cross = refl });
  range_is = (record { cross = refl }, record { cross = refl });
  report = refl;
  written = refl;
  read = refl;
}

quotient : QuotientExample
unfolding grid_above grid_below inside? le_F max_F min_F neg_F floor ceiling ◌+F◌ ◌*F◌ inv_F over_top
quotient = record {
  line = record { all = _; made = refl; it = _; there = refl };
  slopes = record { three = _; there = refl };
  U = (record { cross = refl }, record { cross = refl });
  U0 = (record { cross = refl }, record { cross = refl });
  A = (record { cross = refl }, record { cross = refl });
  B = (record { cross = refl }, record { cross = refl });
  C = (record { cross = refl }, record { cross = refl });
  report = refl;
}

close : CloseExample
unfolding grid_above grid_below inside? le_F max_F min_F neg_F floor ceiling ◌+F◌ ◌*F◌ inv_F over_top
close = record {
  at_zero = (refl, refl);
  at_four = (refl, refl);
  at_five = record { all = _; made = refl; it = _; there = refl };
  upper = record { cross = refl };
}

magnitude : MagnitudeExample
unfolding grid_above grid_below inside? le_F max_F min_F neg_F floor ceiling ◌+F◌ ◌*F◌ inv_F over_top
magnitude = record {
  line = record { all = _; made = refl; it = _; there = refl };
  slopes = record { three = _; there = refl };
  A = (record { cross = refl }, record { cross = refl });
  B = (record { cross = refl }, record { cross = refl });
  C = (record { cross = refl }, record { cross = refl });
  range_is = (record { cross = refl }, record { cross = refl });
}

branch : BranchExample
unfolding grid_above grid_below inside? le_F max_F min_F neg_F floor ceiling ◌+F◌ ◌*F◌
branch = record {
  line = record { all = _; made = refl; it = _; there = refl };
  U = (record { cross = refl }, record { cross = refl });
  U0 = (record { cross = refl }, record { cross = refl });
  no_slopes = refl;
}

constant : ConstantExample
unfolding grid_above grid_below inside? le_F neg_F floor slide
constant = record {
  line = record { all = _; made = refl; it = _; there = refl };
  U = (record { cross = refl }, record { cross = refl });
}

bytes : BytesExample
bytes = record { long = (refl, refl); early = (refl, refl) }

pub worked_examples : WorkedExamples
worked_examples = record { product = product; quotient = quotient; close = close; magnitude = magnitude; branch = branch; constant = constant; bytes = bytes }
