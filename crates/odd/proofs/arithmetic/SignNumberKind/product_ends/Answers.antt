use Rattle.std.proofs.Common.{◌∙◌, ap₂}
use Rattle.std.specs.Int.{int_max, int_min}
use Rattle.std.specs.Option.{option_zip}
use Rattle.odd.proofs.Computed.{at_sign, greatest_is, least_is, plain, zipped}
use Rattle.odd.proofs.arithmetic.SignNumberKind.product_ends.Goals as goal

pub returns : goal.returns
returns c =
    let ac = plain _ _ c.times-ac.ensures c.times-ac.type_inv in
    let ad = plain _ _ c.times-ad.ensures c.times-ad.type_inv in
    let bc = plain _ _ c.times-bc.ensures c.times-bc.type_inv in
    let bd = plain _ _ c.times-bd.ensures c.times-bd.type_inv in
    let least_a = plain _ _ (c.min.ensures.value ∙ ap₂ int_min ac ad) c.min.type_inv in
    let least_b = plain _ _ (c.min-2.ensures.value ∙ ap₂ int_min bc bd) c.min-2.type_inv in
    let least = plain _ _ (c.min-least.ensures.value ∙ ap₂ int_min least_a least_b) c.min-least.type_inv in
    let greatest_a = plain _ _ (c.max.ensures.value ∙ ap₂ int_max ac ad) c.max.type_inv in
    let greatest_b = plain _ _ (c.max-2.ensures.value ∙ ap₂ int_max bc bd) c.max-2.type_inv in
    let greatest = plain _ _ (c.max-greatest.ensures.value ∙ ap₂ int_max greatest_a greatest_b) c.max-greatest.type_inv in
    let below = at_sign _ _ _ c.marked.ensures least ∙ least_is _ _ _ _ in
    let above = at_sign _ _ _ c.marked-2.ensures greatest ∙ greatest_is _ _ _ _ in
    c.zip.ensures ∙ ap₂ option_zip below above ∙ zipped _ _
