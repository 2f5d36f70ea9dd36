-- The scope, "How firm each promise is": for all inputs, refused ones too, the promise of a public function allows one result, one table and one buffer. There is
-- a field for each public function of every library crate, under the function's name. In it stands the function's `ensures` as the source has it, said of any
-- result and, of what was lent with `&mut`, any value left: x for `x.now` and `x.old`, x' for `x.new`. No public function has a `requires`, so the fields
-- speak of all values of the arguments. proofs/Unique.antt proves `Uniqueness` under the same name in snake case. The gate compares each field with its source.
-- Assumes nothing.
use Rattle.std.specs.Prelude.{◌≡◌, ◌%◌, Bool, List, ◌++◌, ℕ, Option, get_or, Result}
use Rattle.std.specs.Int.Bits.{bit_xor}
use Rattle.ground.specs.Numbers.{bytes_at}
use Rattle.digits.specs.Digits.{picked}
use Rattle.checkword.specs.Generators.{generator48, generator32}
use Rattle.checkword.specs.Word.{word}
use Rattle.telegram.specs.Levels.{level_of, top_bits, word_length, added}
use Rattle.telegram.specs.Commands.{is_data, kind_of, kind_of_command, known}
use Rattle.telegram.specs.Layout.{most, suits, on_bus}
use Rattle.telegram.specs.Ends.{in_range, sending, receiving}
use Rattle.telegram.specs.Telegrams.{check_word, authentication_number}
use Rattle.telegram.specs.Values.{good_idle, good_type, listed_reason, good_dual_bus}
use Rattle.telegram.specs.Writers.{answer_of, left_by, connect_allowed, disconnect_allowed, data_allowed, writes_request, writes_confirm, writes_authentication, writes_acknowledgement, writes_disconnect, writes_idle, writes_data}
use Rattle.telegram.specs.Check.{command_of, check_of, answer_number, Check}
use Rattle.telegram.specs.NetData.{net_part, net_data}
use Rattle.telegram.specs.Fields.{random_of, idle_time_of, version_x_of, version_y_of, authentication_of, type_of, reason_of, low_of}
use Rattle.telegram.specs.declared.End.{End}
use Rattle.telegram.specs.declared.Kind.{Kind}
use Rattle.telegram.specs.declared.Written.{Written}
use Rattle.telegram.specs.declared.Part.{Part}
use Rattle.link.specs.Records.{record_in_range, fresh_of}
use Rattle.link.specs.Steps.{open_of, open_out, close_of, close_out, send_of, send_out, received_of, received_out, tick_of, tick_out}
use Rattle.link.specs.Plain.{idle_time_by, happened}
use Rattle.link.specs.Plain as link
use Rattle.link.specs.declared.Record.{Record}
use Rattle.link.specs.declared.Event.{Event}
use Rattle.link.specs.declared.Step.{Step}
use Rattle.link.specs.declared.Happened.{Happened}
use Rattle.link.specs.declared.Stepped.{Stepped}
use Rattle.firmware.specs.Ends.{end_of}
use Rattle.node.specs.Heads.{new_head}
use Rattle.node.specs.Accepted.{accepted}
use Rattle.node.specs.Matching.{route_by, place_in, first_match}
use Rattle.node.specs.Calls.{called}
use Rattle.node.specs.Calls.Call.{Open, Close, Send, Received, Tick}
use Rattle.node.specs.Plain.{data_of}
use Rattle.node.specs.Plain as node
use Rattle.node.specs.declared.Head.{Head}
use Rattle.node.specs.declared.Route.{Route}
use Rattle.node.specs.declared.Outcome.{Outcome}
use Rattle.node.specs.declared.PlainOutcome.{PlainOutcome}
use Rattle.clock.specs.Clocks.{new_clock}
use Rattle.clock.specs.Events.{number_of}
use Rattle.clock.specs.Updates.{heard_by}
use Rattle.clock.specs.Asking.{factor_at, time_at}
use Rattle.clock.specs.Reading.{read_by}
use Rattle.clock.specs.Plain.{plain_reading, plain_factor, plain_time}
use Rattle.clock.specs.declared.Clock as estimator
use Rattle.clock.specs.declared.Step as step
use Rattle.clock.specs.declared.events.Event as happening
use Rattle.clock.specs.declared.Message.{Message}
use Rattle.clock.specs.declared.LocalTime.{LocalTime}
use Rattle.clock.specs.declared.RefTime.{RefTime}
use Rattle.clock.specs.declared.Unreadable.{Unreadable}
use Rattle.clock.specs.declared.PlainReading.{PlainReading}
use Rattle.clock.specs.declared.PlainFactor.{PlainFactor}
use Rattle.clock.specs.declared.PlainTime.{PlainTime}

-- Any two results that meet the promise P are equal.
abbrev pub Unique : {A : Type 0} → (A → Type 0) → Type 0
Unique {A} P = (r s : A) → P r → P s → r ≡ s

-- The same of a result and a buffer that was lent.
abbrev pub Unique₂ : {A B : Type 0} → (A → B → Type 0) → Type 0
Unique₂ {A} {B} P = (r s : A) (a b : B) → P r a → P s b → (r ≡ s) × (a ≡ b)

-- The same of a result, a table and a buffer that were lent.
abbrev pub Unique₃ : {A B C : Type 0} → (A → B → C → Type 0) → Type 0
Unique₃ {A} {B} {C} P = (r s : A) (t u : B) (a b : C) → P r t a → P s u b → (r ≡ s) × ((t ≡ u) × (a ≡ b))

-- The public functions of `ground`.
pub record Ground : Type 0 where
  -- src/numbers.rt: a byte, and the bytes from a place on
  pub byte : (t : List ℕ) (at : ℕ) → Unique (λ (x : ℕ). x ≡ get_or t at 0)
  pub bytes_at : (N : ℕ) (t : List ℕ) (at : ℕ) → Unique (λ (x : List ℕ). x ≡ bytes_at N at t)

-- The public functions of `digits`, which only `checkword` calls: over any rows, as those of both widths.
pub record RowsOf : Type 0 where
  pub low : List ℕ
  pub high : List ℕ

pub record Digits : Type 0 where
  -- src/lib.rt: the number at a place of the rows that a width gives, and what the low and the high digits of a number leave
  pub low_at : (low : List ℕ) (place : ℕ) → Unique (λ (r : ℕ). r ≡ get_or low (place % 320) 0)
  pub high_at : (high : List ℕ) (place : ℕ) → Unique (λ (r : ℕ). r ≡ get_or high (place % 384) 0)
  pub low : (R : RowsOf) (v : ℕ) → Unique (λ (r : ℕ). r ≡ picked R.low 5 v)
  pub high : (R : RowsOf) (y v : ℕ) → Unique (λ (r : ℕ). r ≡ bit_xor y (picked R.high 6 v))

-- The public functions of `checkword`.
pub record Checkword : Type 0 where
  -- src/lib.rt: the check word at both widths
  pub word48 : (first second : List ℕ) → Unique (λ (r : ℕ). r ≡ word 48 generator48 (first ++ second))
  pub word32 : (first second : List ℕ) → Unique (λ (r : ℕ). r ≡ word 32 generator32 (first ++ second))

-- The public functions of `telegram`.
pub record Telegram : Type 0 where
  -- src/ends.rt: an end in range, and the implicit bytes of what it writes and takes
  pub in_range : (end : End) → Unique (λ (b : Bool). b ≡ in_range end)
  pub sending_bytes : (end : End) (number count : ℕ) → Unique (λ (r : List ℕ). r ≡ sending end number count)
  pub receiving_bytes : (end : End) (number count : ℕ) → Unique (λ (r : List ℕ). r ≡ receiving end number count)
  -- src/levels.rt: the level that a command gives, and what differs by level
  pub level_of : (command : ℕ) → Unique (λ (l : Option ℕ). l ≡ level_of command)
  pub top_bits : (level : ℕ) → Unique (λ (b : ℕ). b ≡ top_bits level)
  pub word_length : (level : ℕ) → Unique (λ (n : ℕ). n ≡ word_length level)
  pub added_number : (level : ℕ) → Unique (λ (n : ℕ). n ≡ added level)
  pub word_of : (level : ℕ) (first second : List ℕ) → Unique (λ (w : ℕ). w ≡ check_word level first second)
  -- src/commands.rt: what a command's low six bits name
  pub is_data : (low : ℕ) → Unique (λ (b : Bool). b ≡ is_data low)
  pub kind_of : (low : ℕ) → Unique (λ (k : Kind). k ≡ kind_of low)
  pub is_known : (kind : Kind) → Unique (λ (b : Bool). b ≡ known kind)
  -- src/values.rt: the values that fields may have
  pub good_idle : (time : ℕ) → Unique (λ (b : Bool). b ≡ good_idle time)
  pub good_type : (new_setup : ℕ) → Unique (λ (b : Bool). b ≡ good_type new_setup)
  pub listed_reason : (reason : ℕ) → Unique (λ (b : Bool). b ≡ listed_reason reason)
  pub good_dual_bus : (bus : ℕ) → Unique (λ (b : Bool). b ≡ good_dual_bus bus)
  -- src/layout.rt: how many net data, and which lengths suit a kind and the bus
  pub most_net : (kind : Kind) (level : ℕ) → Unique (λ (n : ℕ). n ≡ most kind level)
  pub length_suits : (kind : Kind) (level length : ℕ) → Unique (λ (b : Bool). b ≡ suits kind level length)
  pub on_bus : (length : ℕ) → Unique (λ (b : Bool). b ≡ on_bus length)
  -- src/fields.rt: the fields of a telegram
  pub command_low : (telegram : List ℕ) → Unique (λ (n : ℕ). n ≡ low_of telegram)
  pub kind_of_telegram : (telegram : List ℕ) → Unique (λ (k : Kind). k ≡ kind_of_command (command_of telegram))
  pub random_number : (telegram : List ℕ) → Unique (λ (n : ℕ). n ≡ random_of telegram)
  pub idle_time : (telegram : List ℕ) → Unique (λ (n : ℕ). n ≡ idle_time_of telegram)
  pub version_x : (telegram : List ℕ) → Unique (λ (n : ℕ). n ≡ version_x_of telegram)
  pub version_y : (telegram : List ℕ) → Unique (λ (n : ℕ). n ≡ version_y_of telegram)
  pub authentication_number : (telegram : List ℕ) → Unique (λ (n : ℕ). n ≡ authentication_of telegram)
  pub disconnect_type : (telegram : List ℕ) → Unique (λ (n : ℕ). n ≡ type_of telegram)
  pub disconnect_reason : (telegram : List ℕ) → Unique (λ (n : ℕ). n ≡ reason_of telegram)
  -- src/parts.rt: where the net data lie, and the net data
  pub net_part : (telegram : List ℕ) → Unique (λ (p : Part). p ≡ net_part telegram)
  pub net_data : (telegram : List ℕ) → Unique (λ (r : List ℕ). r ≡ net_data telegram)

-- The public functions of `writers`.
pub record Writers : Type 0 where
  -- src/write.rt: the authentication number, what a telegram may carry, and the seven writers
  pub authentication_of : (level received : ℕ) → Unique (λ (n : ℕ). n ≡ authentication_number level received)
  pub connect_allowed : (time count level : ℕ) → Unique (λ (b : Bool). b ≡ connect_allowed time count level)
  pub disconnect_allowed : (new_setup reason count level : ℕ) → Unique (λ (b : Bool). b ≡ disconnect_allowed new_setup reason count level)
  pub data_allowed : (low count level : ℕ) → Unique (λ (b : Bool). b ≡ data_allowed low count level)
  pub write_request : (out : List ℕ) (end : End) (random time : ℕ) (net : List ℕ)
      → Unique₂ (λ (r : Written) (out' : List ℕ).
      (r ≡ answer_of (writes_request end random time net out))
      × (out' ≡ left_by (writes_request end random time net out) out))
  pub write_confirm : (out : List ℕ) (end : End) (random time : ℕ) (net : List ℕ)
      → Unique₂ (λ (r : Written) (out' : List ℕ).
      (r ≡ answer_of (writes_confirm end random time net out))
      × (out' ≡ left_by (writes_confirm end random time net out) out))
  pub write_authentication : (out : List ℕ) (end : End) (number received : ℕ)
      → Unique₂ (λ (r : Written) (out' : List ℕ).
      (r ≡ answer_of (writes_authentication end number received out))
      × (out' ≡ left_by (writes_authentication end number received out) out))
  pub write_acknowledgement : (out : List ℕ) (end : End) (number received : ℕ)
      → Unique₂ (λ (r : Written) (out' : List ℕ).
      (r ≡ answer_of (writes_acknowledgement end number received out))
      × (out' ≡ left_by (writes_acknowledgement end number received out) out))
  pub write_disconnect : (out : List ℕ) (end : End) (number new_setup reason : ℕ) (text : List ℕ)
      → Unique₂ (λ (r : Written) (out' : List ℕ).
      (r ≡ answer_of (writes_disconnect end number new_setup reason text out))
      × (out' ≡ left_by (writes_disconnect end number new_setup reason text out) out))
  pub write_idle : (out : List ℕ) (end : End) (number : ℕ)
      → Unique₂ (λ (r : Written) (out' : List ℕ).
      (r ≡ answer_of (writes_idle end number out))
      × (out' ≡ left_by (writes_idle end number out) out))
  pub write_data : (out : List ℕ) (end : End) (number low : ℕ) (net : List ℕ)
      → Unique₂ (λ (r : Written) (out' : List ℕ).
      (r ≡ answer_of (writes_data end number low net out))
      × (out' ≡ left_by (writes_data end number low net out) out))

-- The public functions of `checking`.
pub record Checking : Type 0 where
  -- src/check_telegram.rt: the check, and its number
  pub checked : (end : End) (expected : ℕ) (telegram : List ℕ) → Unique (λ (k : Check). k ≡ check_of end expected telegram)
  pub answer_number : (check : Check) → Unique (λ (n : ℕ). n ≡ answer_number check)

-- The public functions of `link`.
pub record Link : Type 0 where
  -- src/records.rt: a record in range, and a fresh one
  pub record_in_range : («record» : Record) (own : ℕ) → Unique (λ (b : Bool). b ≡ record_in_range «record» own)
  pub fresh : (partner partner_sap local_sap level : ℕ) → Unique (λ (r : Record). r ≡ fresh_of partner partner_sap local_sap level)
  -- src/steps.rt: the five steps
  pub «open» : («record» : Record) (own time random : ℕ) (idle : Option ℕ) (net out : List ℕ)
      → Unique₂ (λ (s : Step) (out' : List ℕ).
      (s ≡ open_of «record» own time random idle net out)
      × (out' ≡ open_out «record» own random idle net out))
  pub close : («record» : Record) (own new_setup reason : ℕ) (text out : List ℕ)
      → Unique₂ (λ (s : Step) (out' : List ℕ).
      (s ≡ close_of «record» own new_setup reason text out)
      × (out' ≡ close_out «record» own new_setup reason text out))
  pub send : («record» : Record) (own time command : ℕ) (net out : List ℕ)
      → Unique₂ (λ (s : Step) (out' : List ℕ).
      (s ≡ send_of «record» own time command net out)
      × (out' ≡ send_out «record» own command net out))
  pub received : («record» : Record) (own time random : ℕ) (idle : Option ℕ) (telegram net out : List ℕ)
      → Unique₂ (λ (s : Step) (out' : List ℕ).
      (s ≡ received_of «record» own time random idle telegram net out)
      × (out' ≡ received_out «record» own time random idle telegram net out))
  pub tick : («record» : Record) (own time : ℕ) (out : List ℕ)
      → Unique₂ (λ (s : Step) (out' : List ℕ).
      (s ≡ tick_of «record» own time out)
      × (out' ≡ tick_out «record» own time out))
  -- src/plain.rt: what C says and is told in plain numbers
  pub idle_time_by : (named time : ℕ) → Unique (λ (i : Option ℕ). i ≡ idle_time_by named time)
  pub happened_from_event : (event : Event) → Unique (λ (h : Happened). h ≡ happened event)
  pub stepped_from_step : (step : Step) → Unique (λ (s : Stepped). s ≡ link.plain step)

-- The public functions of `link_c`.
pub record LinkC : Type 0 where
  -- src/lib.rt: the five steps for C
  pub uj_link_open : («record» : Record) (own time random named idle_time : ℕ) (net out : List ℕ)
      → Unique₂ (λ (s : Stepped) (out' : List ℕ).
      (s ≡ link.plain (open_of «record» own time random (idle_time_by named idle_time) net out))
      × (out' ≡ open_out «record» own random (idle_time_by named idle_time) net out))
  pub uj_link_close : («record» : Record) (own new_setup reason : ℕ) (text out : List ℕ)
      → Unique₂ (λ (s : Stepped) (out' : List ℕ).
      (s ≡ link.plain (close_of «record» own new_setup reason text out))
      × (out' ≡ close_out «record» own new_setup reason text out))
  pub uj_link_send : («record» : Record) (own time command : ℕ) (net out : List ℕ)
      → Unique₂ (λ (s : Stepped) (out' : List ℕ).
      (s ≡ link.plain (send_of «record» own time command net out))
      × (out' ≡ send_out «record» own command net out))
  pub uj_link_received : («record» : Record) (own time random named idle_time : ℕ) (telegram net out : List ℕ)
      → Unique₂ (λ (s : Stepped) (out' : List ℕ).
      (s ≡ link.plain (received_of «record» own time random (idle_time_by named idle_time) telegram net out))
      × (out' ≡ received_out «record» own time random (idle_time_by named idle_time) telegram net out))
  pub uj_link_tick : («record» : Record) (own time : ℕ) (out : List ℕ)
      → Unique₂ (λ (s : Stepped) (out' : List ℕ).
      (s ≡ link.plain (tick_of «record» own time out))
      × (out' ≡ tick_out «record» own time out))

-- The public functions of `firmware`.
pub record Firmware : Type 0 where
  -- src/lib.rt: the writers, the check, the net data and the check word for C
  pub uj_write_request : (own partner partner_sap local_sap level random idle_time : ℕ) (net out : List ℕ)
      → Unique₂ (λ (r : Written) (out' : List ℕ).
      (r ≡ answer_of (writes_request (end_of own partner partner_sap local_sap level) random idle_time net out))
      × (out' ≡ left_by (writes_request (end_of own partner partner_sap local_sap level) random idle_time net out) out))
  pub uj_write_confirm : (own partner partner_sap local_sap level random idle_time : ℕ) (net out : List ℕ)
      → Unique₂ (λ (r : Written) (out' : List ℕ).
      (r ≡ answer_of (writes_confirm (end_of own partner partner_sap local_sap level) random idle_time net out))
      × (out' ≡ left_by (writes_confirm (end_of own partner partner_sap local_sap level) random idle_time net out) out))
  pub uj_write_authentication : (own partner partner_sap local_sap level number received : ℕ) (out : List ℕ)
      → Unique₂ (λ (r : Written) (out' : List ℕ).
      (r ≡ answer_of (writes_authentication (end_of own partner partner_sap local_sap level) number received out))
      × (out' ≡ left_by (writes_authentication (end_of own partner partner_sap local_sap level) number received out) out))
  pub uj_write_acknowledgement : (own partner partner_sap local_sap level number received : ℕ) (out : List ℕ)
      → Unique₂ (λ (r : Written) (out' : List ℕ).
      (r ≡ answer_of (writes_acknowledgement (end_of own partner partner_sap local_sap level) number received out))
      × (out' ≡ left_by (writes_acknowledgement (end_of own partner partner_sap local_sap level) number received out) out))
  pub uj_write_disconnect : (own partner partner_sap local_sap level number new_setup reason : ℕ) (text out : List ℕ)
      → Unique₂ (λ (r : Written) (out' : List ℕ).
      (r ≡ answer_of (writes_disconnect (end_of own partner partner_sap local_sap level) number new_setup reason text out))
      × (out' ≡ left_by (writes_disconnect (end_of own partner partner_sap local_sap level) number new_setup reason text out) out))
  pub uj_write_idle : (own partner partner_sap local_sap level number : ℕ) (out : List ℕ)
      → Unique₂ (λ (r : Written) (out' : List ℕ).
      (r ≡ answer_of (writes_idle (end_of own partner partner_sap local_sap level) number out))
      × (out' ≡ left_by (writes_idle (end_of own partner partner_sap local_sap level) number out) out))
  pub uj_write_data : (own partner partner_sap local_sap level number command : ℕ) (net out : List ℕ)
      → Unique₂ (λ (r : Written) (out' : List ℕ).
      (r ≡ answer_of (writes_data (end_of own partner partner_sap local_sap level) number command net out))
      × (out' ≡ left_by (writes_data (end_of own partner partner_sap local_sap level) number command net out) out))
  pub uj_check : (own partner partner_sap local_sap level expected : ℕ) (telegram : List ℕ)
      → Unique (λ (n : ℕ). n ≡ answer_number (check_of (end_of own partner partner_sap local_sap level) expected telegram))
  pub uj_net_data : (telegram : List ℕ) → Unique (λ (p : Part). p ≡ net_part telegram)
  pub uj_word48 : (first second : List ℕ) → Unique (λ (r : ℕ). r ≡ word 48 generator48 (first ++ second))
  pub uj_word32 : (first second : List ℕ) → Unique (λ (r : ℕ). r ≡ word 32 generator32 (first ++ second))

-- The public functions of `node`.
pub record Node : Type 0 where
  -- src/heads.rt: a new head
  pub new_head : (own : ℕ) → Unique (λ (h : Head). h ≡ new_head own)
  -- src/accepted.rt: which tables are accepted
  pub table_accepted : (table : List Record) (head : Head) → Unique (λ (b : Bool). b ≡ accepted head table)
  -- src/matching.rt: which record a telegram is for, and what it was sent under
  pub first_match : (table : List Record) (route : Route) → Unique (λ (place : Option ℕ). place ≡ place_in table (first_match route table))
  pub route_by : (sender destination_sap source_sap : ℕ) → Unique (λ (w : Route). w ≡ route_by sender destination_sap source_sap)
  -- src/calls.rt: the five calls
  pub «open» : (table : List Record) (head : Head) (time place random : ℕ) (idle : Option ℕ) (net out : List ℕ)
      → Unique₃ (λ (o : Outcome) (table' : List Record) (out' : List ℕ).
      (o ≡ (called (Open place random idle net) head table time out).outcome)
      × ((table' ≡ (called (Open place random idle net) head table time out).table)
      × (out' ≡ (called (Open place random idle net) head table time out).out)))
  pub close : (table : List Record) (head : Head) (time place new_setup reason : ℕ) (text out : List ℕ)
      → Unique₃ (λ (o : Outcome) (table' : List Record) (out' : List ℕ).
      (o ≡ (called (Close place new_setup reason text) head table time out).outcome)
      × ((table' ≡ (called (Close place new_setup reason text) head table time out).table)
      × (out' ≡ (called (Close place new_setup reason text) head table time out).out)))
  pub send : (table : List Record) (head : Head) (time place command : ℕ) (net out : List ℕ)
      → Unique₃ (λ (o : Outcome) (table' : List Record) (out' : List ℕ).
      (o ≡ (called (Send place command net) head table time out).outcome)
      × ((table' ≡ (called (Send place command net) head table time out).table)
      × (out' ≡ (called (Send place command net) head table time out).out)))
  pub received : (table : List Record) (head : Head) (time : ℕ) (route : Route) (random : ℕ) (idle : Option ℕ) (telegram net out : List ℕ)
      → Unique₃ (λ (o : Outcome) (table' : List Record) (out' : List ℕ).
      (o ≡ (called (Received route random idle telegram net) head table time out).outcome)
      × ((table' ≡ (called (Received route random idle telegram net) head table time out).table)
      × (out' ≡ (called (Received route random idle telegram net) head table time out).out)))
  pub tick : (table : List Record) (head : Head) (time place : ℕ) (out : List ℕ)
      → Unique₃ (λ (o : Outcome) (table' : List Record) (out' : List ℕ).
      (o ≡ (called (Tick place) head table time out).outcome)
      × ((table' ≡ (called (Tick place) head table time out).table)
      × (out' ≡ (called (Tick place) head table time out).out)))
  -- src/outcomes.rt: the net data of an event, and an outcome as plain numbers
  pub net_data : (telegram : List ℕ) (event : Event) → Unique (λ (r : List ℕ). r ≡ data_of event telegram)
  pub plain_outcome_from_outcome : (outcome : Outcome) → Unique (λ (p : PlainOutcome). p ≡ node.plain outcome)

-- The public functions of `node_c`.
pub record NodeC : Type 0 where
  -- src/lib.rt: constructors and calls for C
  pub uj_new_head : (own : ℕ) → Unique (λ (h : Head). h ≡ new_head own)
  pub uj_fresh : (partner partner_sap local_sap level : ℕ) → Unique (λ (r : Record). r ≡ fresh_of partner partner_sap local_sap level)
  pub uj_open : (table : List Record) (head : Head) (time place random named idle_time : ℕ) (net out : List ℕ)
      → Unique₃ (λ (o : PlainOutcome) (table' : List Record) (out' : List ℕ).
      (o ≡ node.plain (called (Open place random (idle_time_by named idle_time) net) head table time out).outcome)
      × ((table' ≡ (called (Open place random (idle_time_by named idle_time) net) head table time out).table)
      × (out' ≡ (called (Open place random (idle_time_by named idle_time) net) head table time out).out)))
  pub uj_close : (table : List Record) (head : Head) (time place new_setup reason : ℕ) (text out : List ℕ)
      → Unique₃ (λ (o : PlainOutcome) (table' : List Record) (out' : List ℕ).
      (o ≡ node.plain (called (Close place new_setup reason text) head table time out).outcome)
      × ((table' ≡ (called (Close place new_setup reason text) head table time out).table)
      × (out' ≡ (called (Close place new_setup reason text) head table time out).out)))
  pub uj_send : (table : List Record) (head : Head) (time place command : ℕ) (net out : List ℕ)
      → Unique₃ (λ (o : PlainOutcome) (table' : List Record) (out' : List ℕ).
      (o ≡ node.plain (called (Send place command net) head table time out).outcome)
      × ((table' ≡ (called (Send place command net) head table time out).table)
      × (out' ≡ (called (Send place command net) head table time out).out)))
  pub uj_received : (table : List Record) (head : Head) (time sender destination_sap source_sap random named idle_time : ℕ) (telegram net out : List ℕ)
      → Unique₃ (λ (o : PlainOutcome) (table' : List Record) (out' : List ℕ).
      (o ≡ node.plain (called (Received (route_by sender destination_sap source_sap) random (idle_time_by named idle_time) telegram net) head table time out).outcome)
      × ((table' ≡ (called (Received (route_by sender destination_sap source_sap) random (idle_time_by named idle_time) telegram net) head table time out).table)
      × (out' ≡ (called (Received (route_by sender destination_sap source_sap) random (idle_time_by named idle_time) telegram net) head table time out).out)))
  pub uj_tick : (table : List Record) (head : Head) (time place : ℕ) (out : List ℕ)
      → Unique₃ (λ (o : PlainOutcome) (table' : List Record) (out' : List ℕ).
      (o ≡ node.plain (called (Tick place) head table time out).outcome)
      × ((table' ≡ (called (Tick place) head table time out).table)
      × (out' ≡ (called (Tick place) head table time out).out)))

-- What `clock` keeps, what a message leaves and what it did, under names of their own.
abbrev pub Estimator : Type 0
Estimator = estimator.Clock

abbrev pub Taken : Type 0
Taken = step.Step

abbrev pub Happening : Type 0
Happening = happening.Event

-- The public functions of `clock`.
pub record Clock : Type 0 where
  -- src/states.rt: a new clock
  pub new_clock : (none : Unit {0}) → Unique (λ (c : Estimator). c ≡ new_clock)
  -- src/layout.rt: a message from its bytes
  pub read_message : (bytes : List ℕ) → Unique (λ (r : Result Message Unreadable). r ≡ read_by bytes)
  -- src/updates.rt: the clock after a message
  pub heard : (c : Estimator) (message : Message) (local : LocalTime) → Unique (λ (h : Taken). h ≡ heard_by c message local)
  -- src/asking.rt: the factor and the Reference Time at a moment
  pub factor : (c : Estimator) (local : LocalTime) → Unique (λ (f : Option ℕ). f ≡ factor_at c local)
  pub reference_time : (c : Estimator) (local : LocalTime) → Unique (λ (t : Option RefTime). t ≡ time_at c local)
  -- src/events.rt, src/plain.rt: what C is told in plain numbers
  pub u32_from_event : (event : Happening) → Unique (λ (n : ℕ). n ≡ number_of event)
  pub plain_reading_from_result_message_unreadable : (read : Result Message Unreadable) → Unique (λ (p : PlainReading). p ≡ plain_reading read)
  pub plain_factor_from_option_u32 : (factor : Option ℕ) → Unique (λ (p : PlainFactor). p ≡ plain_factor factor)
  pub plain_time_from_option_ref_time : (time : Option RefTime) → Unique (λ (p : PlainTime). p ≡ plain_time time)

-- The public functions of `clock_c`.
pub record ClockC : Type 0 where
  -- src/exported.rt: the same for C, and the one function that takes the clock where it stands
  pub uj_clock_new : (none : Unit {0}) → Unique (λ (c : Estimator). c ≡ new_clock)
  pub uj_clock_read : (bytes : List ℕ) → Unique (λ (r : PlainReading). r ≡ plain_reading (read_by bytes))
  pub uj_clock_message : (clock : Estimator) (message : Message) (local : LocalTime)
      → Unique₂ (λ (n : ℕ) (clock' : Estimator).
      (n ≡ number_of (heard_by clock message local).event)
      × (clock' ≡ (heard_by clock message local).clock))
  pub uj_clock_factor : (clock : Estimator) (local : LocalTime) → Unique (λ (p : PlainFactor). p ≡ plain_factor (factor_at clock local))
  pub uj_clock_reference_time : (clock : Estimator) (local : LocalTime) → Unique (λ (p : PlainTime). p ≡ plain_time (time_at clock local))

-- Every public function of the library.
pub record Uniqueness : Type 0 where
  pub ground : Ground
  pub digits : Digits
  pub checkword : Checkword
  pub telegram : Telegram
  pub writers : Writers
  pub checking : Checking
  pub link : Link
  pub link_c : LinkC
  pub firmware : Firmware
  pub node : Node
  pub node_c : NodeC
  pub clock : Clock
  pub clock_c : ClockC
