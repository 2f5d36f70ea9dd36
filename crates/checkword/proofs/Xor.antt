-- The laws of exclusive-or, which digits has, under the name that this crate and those above it cite.
-- Assumes nothing.
pub use Rattle.digits.proofs.Xor.{xor_assoc, xor_swap, xor_twice, xor_cancel_l, xor_cancel_r, xor_mul}
