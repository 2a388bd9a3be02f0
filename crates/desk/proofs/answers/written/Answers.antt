use Rattle.std.proofs.Common.{◌≡◌, ◌∙◌, ◌++◌, ◌<◌, ◌^◌, ◌-◌, Some, [], ◌∷◌, ap, arith, codes, false, get_or, length, string_bytes, subst, sym, take}
use Rattle.std.proofs.Math.Facts.{Fits-lt-pow}
use Rattle.std.proofs.lemmas.Fmt.{hex_byte}
use Rattle.std.proofs.lemmas.List.{flat_map_more, get_or-take, length-take, take_all, take_min, take_more}
use Rattle.std.specs.Fmt.{AppendsText, ◌++?◌, format_spec, padded_integral, styled_digits_output}
use Rattle.std.specs.Option.{option_map}
use Rattle.desk.specs.Told.{hex_bytes}
use Rattle.desk.specs.Told as told
use Rattle.desk.proofs.answers.written.Goals as goal

pub loop-byte-preserved : goal.loop-byte-preserved
loop-byte-preserved c =
    let i = c.loop-byte.byte-index in
    let shown = take c.min.result c.args.bytes.now in
    let b = get_or shown i 0 in
    let old = string_bytes c.loop-byte.text in
    let new = string_bytes c.write.new.self in
    let room : i < length shown = c.loop-byte-test.true in
    let early : i < c.min.result = omega (arith, length-take c.min.result c.args.bytes.now, room) in
    let small : b < 2 ^ 8 = subst (λ x. x < 2 ^ 8) (sym (get_or-take c.min.result c.args.bytes.now i 0 early)) (Fits-lt-pow (c.type_inv.bytes i)) in
    let plain = subst (λ s. AppendsText old new (Some (32 ∷ []) ++? styled_digits_output c.in_radix.result s)) c.laid_out.ensures c.in_ok-write.ensures.bytes in
    let padded = subst (λ o. AppendsText old new (Some (32 ∷ []) ++? option_map (padded_integral (format_spec 32 0 4 2 (2 ^ 64 - 1)) false []) o)) c.in_radix.ensures plain in
    let appended : new ≡ old ++ told.hex_byte b = subst (λ ds. new ≡ old ++ 32 ∷ ds) (hex_byte false b small) padded in
    appended ∙ ap (λ t. t ++ told.hex_byte b) c.loop-byte.invariant ∙ flat_map_more told.hex_byte (c.args.call.now ++ codes ":") (take i shown) b
    ∙ ap (λ bs. c.args.call.now ++ codes ":" ++ hex_bytes bs) (sym (take_more shown i 0 room))

pub returns : goal.returns
returns c =
    let shown = take c.min.result c.args.bytes.now in
    let e = take_all c.loop-byte.byte-index shown c.loop-byte-test.false ∙ ap (λ n. take n c.args.bytes.now) c.min.ensures ∙ take_min c.args.length c.args.bytes.now in
    c.loop-byte.invariant ∙ ap (λ bs. c.args.call.now ++ codes ":" ++ hex_bytes bs) e
