-- The telegrams that there are: the seven of 5.2, written out field by field, with the values that each field may have and the room that its net data have
-- (5.1.1.5, byte 2; 5.2.1.3 to 5.2.7.2). Nothing here is a clause of the check: demand 3 says that a check passes exactly these.
-- Assumes nothing.
use Rattle.std.specs.Prelude.{◌≡◌, List, [], ◌∷◌, ◌⊎◌, ℕ, ◌+◌, ◌%◌, ◌^◌, ◌≤◌, ◌<◌, length}
use Rattle.checkword.specs.Bytes.{Bytes}
use Rattle.telegram.specs.Levels.{word_length}
use Rattle.telegram.specs.Telegrams.{telegram}
use Rattle.telegram.specs.declared.End.{End}

-- The fixed fields of a connect request or confirm (5.2.1.3, 5.2.2.2): random number, bytes 3..6; idle time, bytes 7..8, 0 or a multiple of 100 in 100..65500;
-- version, bytes 9..11, any; dual bus, byte 12, 0 or 1.
pub record ConnectFields (random time x y z bus : ℕ) : Type 0 where
  pub random_room : random < 2 ^ 32
  pub time_most : time ≤ 65500
  pub hundreds : time % 100 ≡ 0
  pub x_byte : x < 256
  pub y_byte : y < 256
  pub z_byte : z < 256
  pub one_bus_or_two : bus ≤ 1

-- Net data behind so many bytes: bytes, and the telegram with its check word is no longer than 244 (5.1.1.5).
pub record NetData (e : End) (header : ℕ) (net : List ℕ) : Type 0 where
  pub bytes : Bytes net
  pub room : header + length net + word_length e.level ≤ 244

-- A telegram t of the end e, as the sender writes it; `expected` is the sequence number that its receiver expects.
pub data TelegramOf (e : End) (expected : ℕ) (t : List ℕ) : Type 0 where
  -- 5.2.1, 5.2.2: under its own random number, whatever is expected
  request : (random time x y z bus : ℕ) (net : List ℕ) → ConnectFields random time x y z bus → NetData e 12 net
      → t ≡ telegram e random 0x00 (random ∷ time ∷ x ∷ y ∷ z ∷ bus ∷ []) net → TelegramOf e expected t
  confirm : (random time x y z bus : ℕ) (net : List ℕ) → ConnectFields random time x y z bus → NetData e 12 net
      → t ≡ telegram e random 0x02 (random ∷ time ∷ x ∷ y ∷ z ∷ bus ∷ []) net → TelegramOf e expected t
  -- 5.2.3, 5.2.4: any number of four bytes, and no net data; all that follow go under the number expected
  authentication : (number : ℕ) → number < 2 ^ 32 → t ≡ telegram e expected 0x03 (number ∷ []) [] → TelegramOf e expected t
  acknowledgement : (number : ℕ) → number < 2 ^ 32 → t ≡ telegram e expected 0x04 (number ∷ []) [] → TelegramOf e expected t
  -- 5.2.5.9: new set-up desired, 0 or 1; any reason; a text of up to 40 bytes, or none
  disconnect : (type reason : ℕ) (text : List ℕ) → type ≤ 1 → reason < 256 → Bytes text → length text ≤ 40
      → t ≡ telegram e expected 0x05 (type ∷ reason ∷ []) text → TelegramOf e expected t
  -- 5.2.6
  idle : t ≡ telegram e expected 0x06 [] [] → TelegramOf e expected t
  -- 5.2.7: 09h, or 20h..3Fh of the layer above
  data_telegram_holds : (low : ℕ) (net : List ℕ) → (low ≡ 0x09) ⊎ ((0x20 ≤ low) × (low ≤ 0x3F)) → NetData e 2 net
      → t ≡ telegram e expected low [] net → TelegramOf e expected t
