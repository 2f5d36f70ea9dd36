-- The worked numbers: each line computes; where a line speaks of every end or every telegram, what is known of it is put in and the rest computes.
-- Assumes nothing.
use mathlib.Core.Path.{◌≡◌, refl, ap, ◌∙◌}
use mathlib.Core.Bool.{Bool, true, false}
use mathlib.Core.List.{List, []}
use Prim.Native.Nat.{ℕ, zero, suc, ◌+◌, ◌≤◌}
use lib.ListN.{length, replicate}
use lib.Dec.{lit≤}
use borrow.Author.Tests.{le-leb, lt-ltb, ne_eqb}
use Rattle.std.specs.Prelude.{Some}
use Rattle.ground.specs.Choice.{pick}
use Rattle.telegram.specs.Levels.{top_bits, word_length, added, level_of}
use Rattle.telegram.specs.Commands.{is_data, kind_of}
use Rattle.telegram.specs.Layout.{longest, most}
use Rattle.telegram.specs.Ends.{in_range, implicit}
use Rattle.telegram.specs.Telegrams.{body, sealed, idle, data_telegram}
use Rattle.telegram.specs.Values.{good_idle}
use Rattle.telegram.specs.Writers.{answer_of, unless, refusal, connect_allowed, data_allowed, writes_request, writes_confirm, writes_idle, writes_data}
use Rattle.telegram.specs.Writers.Outcome.{wrote}
use Rattle.telegram.specs.Check.{check_of}
use Rattle.telegram.specs.declared.End.{End}
use Rattle.telegram.specs.declared.Kind.TheVariants.{Request}
use Rattle.telegram.specs.declared.Clause.TheVariants as clause
use Rattle.telegram.proofs.Sealing.{telegram_length}
use Rattle.telegram.proofs.Taken.{data_taken}
use Rattle.link.specs.Steps.{declared_by, first_refusal, open_refusal}
use Rattle.link.proofs.Answers.{answers}
use Rattle.node.specs.Accepted.{record_at}
use Rattle.node.specs.Matching.{first_match}
use Rattle.node.specs.Calls.{asked}
use Rattle.node.proofs.Facts.{first_answered}
use Rattle.demands.specs.Worked.{DataAt4, FailsAt4, IdleTimeAnswers, IdleTelegram, Worked}

-- A connect telegram whose net data fit is allowed exactly where its idle time is good.
fitting : (time count l : ℕ) → count ≤ most Request l → connect_allowed time count l ≡ good_idle time
unfolding connect_allowed pick
fitting time count l h = rw (le-leb count (most Request l) h) (by (good_idle time))
  where
    by : (b : Bool) → pick b true false ≡ b
    by true = refl
    by false = refl

-- An end in range and a buffer with room leave only what is allowed.
left_to_refuse : (e : End) (room : ℕ) (b : Bool) → in_range e ≡ true → longest ≤ room → refusal e room b ≡ pick b 0 5
unfolding refusal pick
left_to_refuse e room b r h = rw (r, le-leb longest room h) refl

-- A writer answers its refusal.
answer_is : (n : ℕ) (t : List ℕ) → (answer_of (unless n t)).answer ≡ n
answer_is zero t = refl
answer_is (suc n) t = refl

-- So the writer of a connect telegram whose net data fit answers by its idle time.
connect_answers : (e : End) (time : ℕ) (net d t : List ℕ) → in_range e ≡ true → longest ≤ length d → length net ≤ most Request e.level
    → (answer_of (unless (refusal e (length d) (connect_allowed time (length net) e.level)) t)).answer ≡ pick (good_idle time) 0 5
connect_answers e time net d t r room fit =
    answer_is _ t ∙ left_to_refuse e (length d) _ r room ∙ ap (λ b. pick b 0 5) (fitting time (length net) e.level fit)

-- And so do the link's opening and the node's calls, which answer their first refusal.
pub idle_time_answers : (time n : ℕ) → pick (good_idle time) 0 5 ≡ n → IdleTimeAnswers time n
unfolding writes_request writes_confirm open_refusal first_refusal declared_by asked pick
idle_time_answers time n known =
    record {
      by_request = λ e random net d r room fit. connect_answers e time net d _ r room fit ∙ known;
      by_confirm = λ e random net d r room fit. connect_answers e time net d _ r room fit ∙ known;
      by_link = λ r own clock random net d ranged room p fit.
          answers.by_open r own clock random (Some time) net d
          ∙ rw (ranged, le-leb longest (length d) room, p, fitting time (length net) r.level fit) known;
      by_open = λ h t clock place random net d good room timely there p fit.
          first_answered _ h t clock d
          ∙ rw (good, le-leb longest (length d) room, le-leb h.latest clock timely, lt-ltb place (length t) there)
          (rw (p, fitting time (length net) (record_at t place).level fit) known);
      by_received = λ h t clock w random u net d good room timely carried there live fit.
          let p = first_match w t in
          first_answered _ h t clock d
          ∙ rw (good, le-leb longest (length d) room, le-leb h.latest clock timely, carried, lt-ltb p (length t) there)
          (rw (ne_eqb (record_at t p).phase 6 live, fitting time (length net) (record_at t p).level fit) known);
    }

-- An idle telegram is its two bytes and the check word.
idle_bytes : (e : End) (number level : ℕ) → e.level ≡ level → length (idle e number) ≡ 2 + word_length level
unfolding idle kind_of pick
idle_bytes e number level l = telegram_length e number 0x06 [] [] ∙ ap (λ x. 2 + word_length x) l

idle_telegram : (level count : ℕ) → 2 + word_length level ≡ count → IdleTelegram level count
unfolding writes_idle pick
idle_telegram level count known =
    record {
      bytes = λ e number l. idle_bytes e number level l ∙ known;
      written = λ e number d l r room. rw (left_to_refuse e (length d) true r room, idle_bytes e number level l, known) refl;
    }

-- 8Dh is of SL 4 and no command of a connection; C9h is data, but of SL 0.
multicast : FailsAt4 0x8D clause.Command
unfolding check_of level_of kind_of is_data pick
multicast e expected t r l carried is = rw (r, carried, is, l) refl

other_level : FailsAt4 0xC9 clause.Level
unfolding check_of level_of pick
other_level e expected t r l carried is = rw (r, carried, is, l) refl

-- BFh is what data with 3Fh are written with at SL 4. The writer needs some buffer with room; which one doesn't matter to the telegram.
bf_written : (e : End) (number : ℕ) (net d : List ℕ) → in_range e ≡ true → e.level ≡ 4 → length net ≤ 236 → longest ≤ length d
    → writes_data e number 0x3F net d ≡ wrote (data_telegram e number 0x3F net)
unfolding writes_data data_allowed is_data word_length pick
bf_written e number net d r l fit room = rw (left_to_refuse e (length d) _ r room, l, le-leb (length net) 236 fit) refl

bf_data : DataAt4 0x3F 0xBF
unfolding data_telegram sealed body top_bits pick
bf_data =
    record {
      written = bf_written;
      byte_2 = λ e number net l. rw l refl;
      taken = λ e number net r l fit bytes.
          (data_taken e number 0x3F net (replicate 244 0) _ bytes (bf_written e number net (replicate 244 0) r l fit (lit≤ tt))).passes;
    }

-- One line, and then the lines below it.
infixr 5 ◌then◌
◌then◌ : {A B : Type 0} → A → B → A × B
a then b = (a, b)

-- The list, line by line.
pub worked : Worked
unfolding added word_length level_of kind_of is_data good_idle implicit sealed body pick
worked =
    -- authentication
    refl then refl then refl then refl
    -- byte 1 and implicit bytes
    then (λ e low fields net. refl)
    then (λ count receiver sender dsap ssap. refl)
    -- levels
    then refl then refl then refl then refl
    -- data
    then refl then refl then bf_data
    then refl then multicast
    then refl then refl then other_level
    -- idle times
    then refl then refl then refl
    then idle_time_answers 0 0 refl
    then idle_time_answers 100 0 refl
    then idle_time_answers 65500 0 refl
    then idle_time_answers 50 5 refl
    then idle_time_answers 150 5 refl
    then idle_time_answers 65535 5 refl
    -- idle telegrams
    then idle_telegram 4 8 refl
    then idle_telegram 2 6 refl
    then tt
