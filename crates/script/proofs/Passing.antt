-- A number that was read fits 64 bits, so it is the same number where it is passed on.
use Rattle.std.proofs.Common.{◌≡◌, ℕ, List, ℤ, Ok, Err, Result, ap, w64, to_z, of_z}
use Rattle.script.specs.Readings.{Reading, number_at, on, wanted_at, word_at}
use Rattle.script.specs.Numbers.{number_of}
use Rattle.script.specs.Openings.{number_behind}
use Rattle.script.specs.Slips.{Fault}
use Rattle.script.specs.Words.{Place}
use Rattle.script.proofs.Ends.{passed}

-- what was read behind something was read by what goes on behind it
on_gives : {T U : Type 0} (a : Result T Fault) (at : Place) (next : T → Place → Reading U) (x : U) (end : Place) (G : Type 0) → record { answer = Ok x; at = end } ≡ on a at next → ((y : T) → record { answer = Ok x; at = end } ≡ next y at → G) → G
on_gives (Ok y) at next x end G e k = k y e
on_gives {U = U} (Err f) at next x end G e k = let p : ◌≡◌ {A = Result U Fault} (Ok x) (Err f) = ap (λ r. r.answer) e in cc

pub same_number : (n : ℤ) (at end : Place) → record { answer = Ok n; at = end } ≡ number_at at → to_z w64 (of_z w64 n) ≡ n
unfolding number_at
same_number n at end e = on_gives (word_at at).answer (word_at at).at (λ word next. record { answer = number_of word; at = next }) n end _ e (λ word h. passed word n (ap (λ r. r.answer) h))

pub same_behind : (word : List ℕ) (n : ℤ) (at end : Place) → record { answer = Ok n; at = end } ≡ number_behind word at → to_z w64 (of_z w64 n) ≡ n
unfolding number_behind
same_behind word n at end e = on_gives (wanted_at word at).answer (wanted_at word at).at (λ _. number_at) n end _ e (λ _ h. same_number n (wanted_at word at).at end h)
