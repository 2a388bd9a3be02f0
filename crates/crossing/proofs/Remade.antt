-- Records that are made anew, and written as they are made.
use Rattle.std.proofs.Common.{◌≡◌, ℕ, ◌+◌, ◌-◌, ◌<◌, ◌≤◌, List, [], ◌∷◌, ◌++◌, length, get_or, map, take, drop, set, Ok, sym, ap, ap₂, ◌∙◌, arith, length-set, length-take-le}
use Rattle.std.proofs.Math.Seq.{length_front, take-append-add}
use Rattle.std.proofs.lemmas.Slice.{drop-append-drop}
use Rattle.std.proofs.lemmas.List.{drop-map, drop-take, map-append, take-map, take-take, take_more_set}
use Rattle.boxes.specs.Boxes.{Box}
use Rattle.crossing.proofs.Grown.{put_beyond, put_in}
use Rattle.crossing.proofs.Lent.{all_lent}
use Rattle.crossing.specs.Memory.{Beyond, records_in}
use Rattle.crossing.specs.Records.{record_of}
use Rattle.crossing.specs.declared.memory.CMark.{CMark}
use Rattle.crossing.specs.declared.memory.CRecord.{CRecord}
use Rattle.kind.specs.Model.{Model}
use Rattle.line.specs.declared.line.Line.{Line}
use Rattle.rule.specs.Rule.{rule}
use Rattle.sheet.proofs.Remaking.{Going, going_on}
use Rattle.sheet.specs.Reading.{overlaid}
use Rattle.slope.specs.declared.record.Record.{Record}

pub beyond_then : {a b c : List CRecord} → Beyond a b → Beyond b c → Beyond a c
beyond_then p q = record { long = q.long ∙ p.long; rest = q.rest ∙ p.rest }

-- the first n records stand in the room and in memory
module _ {K : Type 0} (of : CMark → K) (memory : List CRecord) (rs : List (Record K)) where
  pub record Both (n : ℕ) : Type 0 where
    pub room : length rs ≡ 64
    pub lent : 64 ≤ length memory
    pub same : take n rs ≡ take n (records_in of memory)

  pub both_more : (n : ℕ) → n < 64 → Both n → (r : Record K) (c : CRecord) → record_of of c ≡ r → (take (n + 1) (set rs n r) ≡ take (n + 1) (records_in of (set memory n c))) × (records_in of (set memory n c) ≡ set (records_in of memory) n r)
  both_more n h b r c e = let put = put_in memory n c h of ∙ ap (set (records_in of memory) n) e in let room = b.room in let all = all_lent of memory b.lent in
      (take_more_set rs n r (omega (arith, h, room)) ∙ ap (λ xs. xs ++ r ∷ []) b.same ∙ sym (take_more_set (records_in of memory) n r (omega (arith, h, all))) ∙ ap (take (n + 1)) (sym put), put)

module _ {K : Type 0} (m : Model K) (of : CMark → K) (b : Box) (ls : List Line) (before : List CRecord) where
  pub record Making (memory : List CRecord) (rs : List (Record K)) (n : ℕ) : Type 0 where
    pub going : Going m b ls (records_in of before) (records_in of memory) n
    pub both : Both of memory rs n
    pub beyond : Beyond before memory

  pub making_on : {memory : List CRecord} {rs : List (Record K)} {n : ℕ} → Making memory rs n → {line : Line} (d : Line) → n < length ls → n < 64 → line ≡ get_or ls n d
      → (r : Record K) → Ok r ≡ rule m b (take n rs) line → (c : CRecord) → record_of of c ≡ r → Making (set memory n c) (set rs n r) (n + 1)
  making_on {memory} {rs} {n} g {line} d h few here r made c e =
      let both = g.both in
      let more = both_more of memory rs n few both r c e in
      let room = both.room in
      let lent = both.lent in
      let long = length-set rs n r in
      let wide = length-set memory n c in
      let all = all_lent of memory lent in
      record {
        going = going_on m b ls (records_in of before) g.going d h here more.1 (made ∙ ap (λ w. rule m b w line) both.same) (omega (arith, few, all));
        both = record { room = long ∙ room; lent = omega (arith, lent, wide); same = more.0 };
        beyond = beyond_then g.beyond (put_beyond memory n c few);
      }

-- the first h records of a memory become those of another
module _ {K : Type 0} (of : CMark → K) (a b : List CRecord) (h : ℕ) (few : h ≤ 64) (long : 64 ≤ length a) where
  abbrev meaning : List CRecord → List (Record K)
  meaning = map (record_of of)

  abbrev left : ℕ
  left = 64 - h

  all : h + left ≡ 64
  all = omega (arith, few)

  front_of : meaning (take h a) ≡ take h (records_in of a)
  front_of = ap meaning (sym (take-take h 64 a few)) ∙ sym (take-map (record_of of) h (take 64 a))

  rest_of : meaning (take left (drop h b)) ≡ drop h (records_in of b)
  rest_of = ap meaning (sym (drop-take h left b) ∙ ap (λ n. drop h (take n b)) all) ∙ sym (drop-map (record_of of) h (take 64 b))

  pub copied_in : records_in of (take h a ++ drop h b) ≡ overlaid (take h (records_in of a)) (records_in of b)
  copied_in =
      let n = length-take-le h a (omega (arith, few, long)) in
      let k = all_lent of a long in
      ap (λ i. meaning (take i (take h a ++ drop h b))) (sym all ∙ ap (λ i. i + left) (sym n))
      ∙ ap meaning (take-append-add (take h a) (drop h b) left)
      ∙ map-append (record_of of) (take h a) (take left (drop h b))
      ∙ ap₂ (λ x y. x ++ y) front_of rest_of
      ∙ ap (λ i. take h (records_in of a) ++ drop i (records_in of b)) (sym (length-take-le h (records_in of a) (omega (arith, few, k))))

  pub copied_beyond : h ≤ length b → Beyond b (take h a ++ drop h b)
  copied_beyond within = let n = length-take-le h a (omega (arith, few, long)) in record {
    long = length_front b (take h a) h (n ∙ sym (length-take-le h b within));
    rest = drop-append-drop h b (take h a) 64 few n;
  }
