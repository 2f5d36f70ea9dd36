-- What each call wrote makes the telegram, by one law (`put_steps`).
use Rattle.std.proofs.Common.{ℕ, ◌+◌, length, sym, ap, ◌∙◌, arith}
use Rattle.telegram.proofs.Sealing.{telegram_length, put_steps}
use Rattle.writers.proofs.write.put_telegram.Goals as goal

pub returns : goal.returns
returns c =
    let args = c.args in (
      ap (λ (w : ℕ). 2 + length args.fields.now + length args.net.now + w) c.word_length.ensures
          ∙ sym (telegram_length args.end args.number args.low args.fields.now args.net.now),
      put_steps args.end args.number args.low c.top_bits.result c.word_length.result args.out.now _ _ _ _ args.fields.now args.net.now _
          c.top_bits.ensures c.word_length.ensures c.copy_at.ensures c.copy_at-2.ensures c.copy_at-3.ensures
          c.sending_bytes-implicit.ensures c.put_word.ensures (omega (arith, c.requires.0, c.requires.1.0)),
    )
