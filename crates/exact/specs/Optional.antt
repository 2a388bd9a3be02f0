-- A step that may be absent: what is absent stays absent.
use Rattle.std.specs.Prelude.{Some, None, Option}

infixr 20 ◌>>=◌
abbrev pub ◌>>=◌ : {X Y : Type 0} → Option X → (X → Option Y) → Option Y
None >>= f = None
Some x >>= f = f x
