-- The number of each cause of refusal.
use Rattle.std.specs.Prelude.{ℕ}
use Rattle.fault.specs.declared.fault.Cause.{Cause}
use Rattle.fault.specs.declared.fault.Cause.TheVariants.{Channels, NoChannel, Number, Order, Centre, Lines, Full, Operand, Divisor, Absent, NoLine, NotEmpty, Early, Form, Operation, Count, Left, Room}

abbrev pub number : Cause → ℕ
number Channels = 1
number NoChannel = 2
number Number = 3
number Order = 4
number Centre = 5
number Lines = 6
number Full = 7
number Operand = 8
number Divisor = 9
number Absent = 10
number NoLine = 11
number NotEmpty = 12
number Early = 13
number Form = 14
number Operation = 15
number Count = 16
number Left = 16
number Room = 17
