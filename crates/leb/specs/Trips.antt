-- Both round trips of numbers.
use Rattle.std.specs.Prelude.{◌≡◌, ℕ, ◌≤◌, List, ◌++◌, length, take, Ok}
use Rattle.leb.specs.Numbers.{Bytes, decode, encode, size}

pub record RoundTrips : Type 0 where
  -- what is written is read back, whatever follows
  pub there : (n : ℕ) (rest : List ℕ) → n ≤ 2147483647 → (decode (encode n ++ rest) ≡ Ok n) × (size (encode n ++ rest) ≡ length (encode n))
  -- bytes that were read as a number are what that number writes
  pub back : (n : ℕ) (bs : List ℕ) → Bytes bs → decode bs ≡ Ok n → encode n ≡ take (size bs) bs
