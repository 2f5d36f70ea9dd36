-- What a definition by cases says once the case is known: so that every arm of a `match` is proved by one line.
-- Assumes nothing.
use mathlib.Core.Path.{◌≡◌}
use Prim.Native.Nat.{ℕ, ◌+◌, ◌≤◌}
use native.Mathlib.Omega.{arith}
use lib.Dec.{lit≤}
use Rattle.telegram.specs.Levels.{word_length}
use Rattle.telegram.specs.Layout.{header, most}
use Rattle.telegram.specs.declared.Kind.{Kind}
use Rattle.telegram.specs.declared.Kind.TheVariants.{Request, Confirm, Authentication, Acknowledgement, Disconnect, Idle, Data, Unknown}
use Rattle.telegram.proofs.Widths.{word_small}

pub most_is : (k h : Kind) (l n : ℕ) → k ≡ h → n ≡ most h l → n ≡ most k l
most_is k h l n e p = rw e p

pub header_small : (k : Kind) → header k ≤ 12
header_small Request = lit≤ tt
header_small Confirm = lit≤ tt
header_small Authentication = lit≤ tt
header_small Acknowledgement = lit≤ tt
header_small Disconnect = lit≤ tt
header_small Idle = lit≤ tt
header_small Data = lit≤ tt
header_small Unknown = lit≤ tt

pub header_some : (k : Kind) → 2 ≤ header k
header_some Request = lit≤ tt
header_some Confirm = lit≤ tt
header_some Authentication = lit≤ tt
header_some Acknowledgement = lit≤ tt
header_some Disconnect = lit≤ tt
header_some Idle = lit≤ tt
header_some Data = lit≤ tt
header_some Unknown = lit≤ tt

pub most_small : (k : Kind) (l : ℕ) → header k + most k l + word_length l ≤ 244
most_small Request l = omega (arith, word_small l)
most_small Confirm l = omega (arith, word_small l)
most_small Authentication l = omega (arith, word_small l)
most_small Acknowledgement l = omega (arith, word_small l)
most_small Disconnect l = omega (arith, word_small l)
most_small Idle l = omega (arith, word_small l)
most_small Data l = omega (arith, word_small l)
most_small Unknown l = omega (arith, word_small l)
