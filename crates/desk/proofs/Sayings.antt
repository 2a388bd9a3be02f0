-- What is said where the words are the same.
use Rattle.std.proofs.Common.{◌≡◌, ◌∙◌, ◌++◌, ℕ, List}
use Rattle.std.proofs.lemmas.Result.{IfOk-weaker}
use Rattle.desk.specs.Told.{Says, SaysAround, Text}

pub says : (words words' : List ℕ) (t : Text) → words ≡ words' → Says words t → Says words' t
says words words' t e h = IfOk-weaker t _ _ (λ s g. g ∙ e) h

pub says_around : (words before open_words behind : List ℕ) (t : Text) → words ≡ before ++ open_words ++ behind → Says words t → SaysAround before behind t
says_around words before open_words behind t e h = IfOk-weaker t _ _ (λ s g. (open_words, g ∙ e)) h
