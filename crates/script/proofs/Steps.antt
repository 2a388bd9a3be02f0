-- From the slips of functions to faults, and from words that are taken to readings.
use Rattle.std.proofs.Common.{◌≡◌, ℕ, Bool, true, false, List, [], None, Some, Ok, Err, Option, Result, Bor, refl, ap, ap₂, ◌∙◌}
use Rattle.std.proofs.lemmas.Result.{err_from_is_err_and}
use Rattle.std.specs.Cmp.Lexicographic.{bytes_decides}
use Rattle.std.specs.Option.{ok_or}
use Rattle.std.specs.Result.{IsErrAnd}
use Rattle.std.specs.Str.{bytes_eq}
use Rattle.script.specs.declared.slip.Problem.{Problem}
use Rattle.script.specs.declared.slip.Problem.TheVariants.{Missing, Surplus}
use Rattle.script.specs.declared.slip.Slip.{Slip}
use Rattle.script.specs.declared.words.Words.{Words}
use Rattle.script.specs.Calls.{room_at}
use Rattle.script.specs.Numbers.{index_of}
use Rattle.script.specs.Readings.{end_at, on, read, reading, reading_by, word_at}
use Rattle.script.specs.Slips.{Fault, fault_of, plain}
use Rattle.script.specs.Words.{Takes, place}

-- `?` hands the slip on
pub handed : {T : Type 0} (r : Result T Slip) (slip : Slip) → IsErrAnd r (λ s. s ≡ slip) → r ≡ Err slip
handed r slip h = let p = err_from_is_err_and r h in p.1 ∙ ap Err p.2

by_test : (w u : List ℕ) (b : Bool) → bytes_eq w u ≡ b → (w ≡ u → ⊥) → b ≡ false
by_test w u true e n = absurd (n ((bytes_decides w u).0 e))
by_test w u false e n = refl

-- another word
pub not_word : (w u : List ℕ) → (w ≡ u → ⊥) → bytes_eq w u ≡ false
not_word w u n = by_test w u (bytes_eq w u) refl n

pub fault_is : (slip : Slip) (w : List ℕ) (p : Problem) → slip.word.now ≡ w → slip.problem ≡ p → fault_of slip ≡ record { word = w; problem = plain p }
fault_is slip w p e f = ap₂ (λ a b. record { word = a; problem = plain b }) e f

pub word_told : (o : Option (Bor (List ℕ))) (from to : Words) (slip : Slip) (r : Result (Bor (List ℕ)) Slip) → r ≡ ok_or o slip → Takes from o to → slip.word.now ≡ to.last.now → slip.problem ≡ Missing → reading_by (λ w. w.now) r to ≡ word_at (place from)
unfolding word_at
word_told None from to slip r e t w p =
    let words : (place to).words ≡ [] = ap (λ q. q.words) t.1 ∙ t.0 in
    let last : to.last.now ≡ from.last.now = ap (λ q. q.last) t.1 in
    rw (e, fault_is slip _ _ w p, words, last, t.0) refl
word_told (Some x) from to slip r e t w p = rw (e, t.0, t.1) refl

-- `end`, and where a word may be left out
pub none_told : (from to : Words) → Takes from None to → reading {T = Unit {0}} (Ok tt) to ≡ end_at (place from)
unfolding end_at
none_told from to t =
    let words : (place to).words ≡ [] = ap (λ q. q.words) t.1 ∙ t.0 in
    let last : to.last.now ≡ from.last.now = ap (λ q. q.last) t.1 in
    rw (words, last, t.0) refl

pub surplus_told : (x : Bor (List ℕ)) (from to : Words) (slip : Slip) → Takes from (Some x) to → slip.word.now ≡ x.now → slip.problem ≡ Surplus → reading {T = Unit {0}} (Err slip) to ≡ end_at (place from)
unfolding end_at
surplus_told x from to slip t w p = rw (fault_is slip _ _ w p, t.0, t.1) refl

pub room_some : (x : Bor (List ℕ)) (from to : Words) (a : Result ℕ Fault) → Takes from (Some x) to → a ≡ index_of x.now → on a (place to) (λ n. read (Some n)) ≡ room_at (place from)
unfolding room_at
room_some x from to a t e = rw (e, t.0, t.1) refl

pub room_none : (from to : Words) → Takes from None to → reading {T = Option ℕ} (Ok None) to ≡ room_at (place from)
unfolding room_at
room_none from to t =
    let words : (place to).words ≡ [] = ap (λ q. q.words) t.1 ∙ t.0 in
    let last : to.last.now ≡ from.last.now = ap (λ q. q.last) t.1 in
    rw (words, last, t.0) refl
