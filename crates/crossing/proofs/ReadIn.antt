-- Lines that are read, and written as they are read.
use Rattle.std.proofs.Common.{◌≡◌, ℕ, ◌+◌, ◌<◌, ◌≤◌, List, [], length, map, take, set, Ok, Err, Result, sym, ap, ◌∙◌, subst, arith, length-set}
use Rattle.std.proofs.lemmas.List.{length-map, map-set}
use Rattle.boxes.specs.Boxes.{Box}
use Rattle.crossing.proofs.Grown.{put_beyond}
use Rattle.crossing.proofs.Lent.{all_lent}
use Rattle.crossing.proofs.Remade.{Both, beyond_then, both_more}
use Rattle.crossing.specs.Lines.{line_of}
use Rattle.crossing.specs.Memory.{Beyond, records_in}
use Rattle.crossing.specs.Records.{record_of}
use Rattle.crossing.specs.declared.memory.CLine.{CLine}
use Rattle.crossing.specs.declared.memory.CMark.{CMark}
use Rattle.crossing.specs.declared.memory.CRecord.{CRecord}
use Rattle.fault.specs.declared.fault.Fault.{Fault}
use Rattle.kind.specs.Model.{Model}
use Rattle.leb.specs.declared.place.Place.{Place}
use Rattle.line.specs.declared.line.Line.{Line}
use Rattle.reader.specs.Reading.{count_at, line_at}
use Rattle.rule.specs.Rule.{rule}
use Rattle.sheet.proofs.ReadFormula.{empty}
use Rattle.sheet.proofs.ReadLines.{Going, going_on}
use Rattle.sheet.specs.Contents.{Contents}
use Rattle.sheet.specs.Reading.{Outcome, Read, ends, filled, goes_on, overlaid, read_formula, read_lines, read_onto}
use Rattle.slope.specs.declared.record.Record.{Record}

module _ {K : Type 0} (m : Model K) (of : CMark → K) (b : Box) (count : ℕ) (bytes : List ℕ) (from : ℕ) (before : List CRecord) where
  -- n lines are read
  pub record Reading (lines : List CLine) (memory : List CRecord) (rs : List (Record K)) (place n : ℕ) : Type 0 where
    pub going : Going m b count bytes from (records_in of before) (map line_of lines) (records_in of memory) place n
    pub both : Both of memory rs n
    pub beyond : Beyond before memory
    pub whole : length lines ≡ 64

  pub reading_on : {lines : List CLine} {memory : List CRecord} {rs : List (Record K)} {place n : ℕ} → Reading lines memory rs place n → n < count → n < 64
      → {line : Line} {place' : ℕ} → line_at bytes place ≡ Ok (line, place') → (l : CLine) → line_of l ≡ line
      → (r : Record K) → Ok r ≡ rule m b (take n rs) line → (c : CRecord) → record_of of c ≡ r → Reading (set lines n l) (set memory n c) (set rs n r) place' (n + 1)
  reading_on {lines} {memory} {rs} {place} {n} g h few {line} {place'} read l el r made c e =
      let both = g.both in
      let more = both_more of memory rs n few both r c e in
      let room = both.room in
      let lent = both.lent in
      let whole = g.whole in
      let long = length-set rs n r in
      let wide = length-set memory n c in
      let all = all_lent of memory lent in
      let as_many = length-map lines line_of in
      record {
        going = subst (λ ls. Going m b count bytes from (records_in of before) ls (records_in of (set memory n c)) place' (n + 1)) (sym (map-set line_of lines n l ∙ ap (set (map line_of lines) n) el))
            (going_on m b count bytes from (records_in of before) g.going h read more.1 (made ∙ ap (λ w. rule m b w line) both.same) (omega (arith, few, whole, as_many)) (omega (arith, few, all)));
        both = record { room = long ∙ room; lent = omega (arith, lent, wide); same = more.0 };
        beyond = beyond_then g.beyond (put_beyond memory n c few);
        whole = length-set lines n l ∙ whole;
      }

module _ {K : Type 0} (m : Model K) (bytes : List ℕ) (s : Contents) (w : List (Record K)) where
  pub read_by : (o : Outcome K) → read_onto m s (length w) bytes ≡ o → {r : Result (Unit {0}) Fault} {s' : Contents} {w' : List (Record K)}
      → r ≡ o.answer → s' ≡ filled s r o.lines → w' ≡ overlaid o.records w → Read m bytes s w r s' w'
  read_by o e {r} p q h = record {
    answer = p ∙ ap (λ o. o.answer) (sym e);
    sheet = q ∙ ap (λ o. filled s r o.lines) (sym e);
    records = h ∙ ap (λ o. overlaid o.records w) (sym e);
  }

  -- a refused read leaves the sheet
  pub refused_by : (o : Outcome K) → read_onto m s (length w) bytes ≡ o → {r : Result (Unit {0}) Fault} {f : Fault} {s' : Contents} {w' : List (Record K)}
      → r ≡ Err f → r ≡ o.answer → s' ≡ s → w' ≡ overlaid o.records w → Read m bytes s w r s' w'
  refused_by o e {r} {f} f_is p q h = read_by o e p (q ∙ ap (λ r. filled s r o.lines) (sym f_is)) h

  -- a count is read
  pub counted : 64 ≤ length w → length s.lines ≡ 0 → {b : Box} → s.over ≡ b → {n : ℕ} {p : Place} → count_at bytes ≡ Ok (n, p) → read_onto m s (length w) bytes ≡ read_lines m b n bytes p.at [] []
  counted h none {b} over e = empty m s w bytes h none ∙ ap (λ b. read_formula m b bytes) over ∙ ap (λ c. goes_on c [] [] (λ p. read_lines m b p.0 bytes p.1.at [] [])) e

  pub uncounted : 64 ≤ length w → length s.lines ≡ 0 → {f : Fault} → count_at bytes ≡ Err f → read_onto m s (length w) bytes ≡ ends (Err f) [] []
  uncounted h none e = empty m s w bytes h none ∙ ap (λ c. goes_on c [] [] (λ p. read_lines m s.over p.0 bytes p.1.at [] [])) e
