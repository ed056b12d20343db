-- The order of run faults.
use Rattle.std.specs.Prelude.{ℕ, Bool, nat_lt}
use Rattle.variant_values.specs.declared.faults.RunFault.{RunFault}
use Rattle.variant_values.specs.declared.faults.RunFault.TheVariants.{NullAccess, FreedAccess, NotCallable, NoMember, NoMethod, NoSignal, BadArgs, BadOperands, BadKey, BadIndex, ElementType, NoKey, BadFormat, BadType, NodeBusy, NoNode, AlreadyConnected, NotConnected, DivisionByZero, BadShift, TooDeep, TooLong, HeapFull, OutputFull, CallTooDeep, AssertFailed}

-- a fault's place in the order
abbrev pub rank : RunFault → ℕ
rank NullAccess = 0
rank FreedAccess = 1
rank NotCallable = 2
rank NoMember = 3
rank NoMethod = 4
rank NoSignal = 5
rank BadArgs = 6
rank BadOperands = 7
rank BadKey = 8
rank BadIndex = 9
rank ElementType = 10
rank NoKey = 11
rank BadFormat = 12
rank BadType = 13
rank NodeBusy = 14
rank NoNode = 15
rank AlreadyConnected = 16
rank NotConnected = 17
rank DivisionByZero = 18
rank BadShift = 19
rank TooDeep = 20
rank TooLong = 21
rank HeapFull = 22
rank OutputFull = 23
rank CallTooDeep = 24
rank AssertFailed = 25

-- where both apply to one operation or call, the first comes and not the other
abbrev pub comes_before : RunFault → RunFault → Bool
comes_before a b = nat_lt (rank a) (rank b)
