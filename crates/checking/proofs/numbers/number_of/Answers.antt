-- At most six bytes are read, so that one more always has room.
use Rattle.std.proofs.Common.{◌≡◌, ℕ, ◌^◌, ◌≤◌, ◌<◌, List, length, take, get_or, Fits, w8, arith, length-take}
use native.Mathlib.Nat.{lt_of_lt_of_le}
use lib.Pow.{pow_mono}
use Rattle.checkword.specs.Bytes.{Bytes, number}
use Rattle.checkword.proofs.Bytes.{number_lt, bytes_of_holds, bytes_take}
use Rattle.checking.proofs.Digits.{number_next}
use Rattle.checking.proofs.numbers.number_of.Goals as goal

-- the number read so far, of at most six bytes, has room for one more
so_far : (bs : List ℕ) (i x : ℕ) → x ≡ number (take i bs) → length bs ≤ 6 → i < length bs → ((k : ℕ) → Fits w8 (get_or bs k 0)) → x < 2 ^ 40
so_far bs i x e few h small =
    let bytes : Bytes bs = bytes_of_holds bs (λ k. omega (arith, small k)) in
    let size : length (take i bs) ≤ 5 = omega (arith, length-take i bs) in
    rw e (lt_of_lt_of_le (number_lt (take i bs) (bytes_take i bs bytes)) (pow_mono {j = 40} (omega arith)))

pub overflow_mul-x : goal.overflow_mul-x
overflow_mul-x c = let known = so_far _ _ _ c.loop-next.invariant c.requires (omega arith) c.type_inv.bytes in omega arith

pub overflow_add-x : goal.overflow_add-x
overflow_add-x c =
    let known = so_far _ _ _ c.loop-next.invariant c.requires (omega arith) c.type_inv.bytes in
    omega (arith, c.type_inv.bytes c.loop-next.next-index)

pub loop-next-preserved : goal.loop-next-preserved
loop-next-preserved c = number_next c.args.bytes.now c.loop-next.next-index c.loop-next.x (omega arith) c.loop-next.invariant
