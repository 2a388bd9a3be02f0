use Rattle.std.proofs.Common.{◌≡◌, ℕ, ◌+◌, ◌≤◌, List, ◌++◌, length, drop, ◌∙◌, ap₂, rules, arith, length-append}
use Rattle.leb.specs.Numbers.{encode}
use Rattle.line.specs.declared.line.Line.{Line}
use Rattle.writer.proofs.Overlay.{written_append, written_start}
use Rattle.writer.specs.Writing.{formula_bytes, lines_bytes, written}
use Rattle.writer.proofs.lines.write.Goals as goal

-- the count's bytes come first
all_bytes : (ls : List Line) (at : ℕ) (out o last : List ℕ) → length (formula_bytes ls) ≤ length out → o ≡ written out 0 (encode (length ls)) → at ≡ 0 + length (encode (length ls)) → last ≡ written o at (lines_bytes ls)
    → last ≡ formula_bytes ls ++ drop (length (formula_bytes ls)) out
all_bytes ls at out o last h b s f =
    let n = length-append (encode (length ls)) (lines_bytes ls) in
    f ∙ ap₂ (λ x k. written x k (lines_bytes ls)) b s ∙ written_append out 0 (encode (length ls)) (lines_bytes ls) (omega arith) ∙ written_start out (formula_bytes ls) h

pub returns-clause-bytes : goal.returns-clause-bytes
returns-clause-bytes c =
    let e = all_bytes c.args.lines.now c.put.new.self.at c.args.out.now c.put.new.self.out.now c.put_lines.new.self.out.now c.in_ok-needed.ensures.fits c.put.ensures.1 c.put.ensures.2 c.put_lines.ensures.1 in
    search rules
