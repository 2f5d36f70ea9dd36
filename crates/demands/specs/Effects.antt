-- What a call does with the record that it is for, as one value, after the actions of the transition table (5.5.1.4): the event, the record afterwards, and the
-- telegram with its bytes. And the receipt of a telegram with all that it is given.
-- Assumes nothing.
use Rattle.std.specs.Prelude.{◌≡◌, Bool, List, [], ◌++◌, ℕ, length, drop, Option}
use Rattle.ground.specs.Choice.{pick}
use Rattle.telegram.specs.Fields.{random_of, idle_time_of, low_of}
use Rattle.telegram.specs.NetData.{net_part}
use Rattle.telegram.specs.Commands.{kind_of_command}
use Rattle.telegram.specs.Telegrams.{request, confirm, authentication, acknowledgement, disconnect, idle, data_telegram}
use Rattle.telegram.specs.Check.{command_of, check_of, Passes}
use Rattle.telegram.specs.declared.Kind.{Kind}
use Rattle.link.specs.Records.{end_of, become, closed_by}
use Rattle.link.specs.Judged.{back, expected_now}
use Rattle.link.specs.Steps.{next}
use Rattle.link.specs.declared.Record.{Record}
use Rattle.link.specs.declared.Event.{Event}
use Rattle.link.specs.declared.Event.TheVariants.{Nothing, Opened, Data, Closed}
use Rattle.node.specs.declared.Head.{Head}
use Rattle.node.specs.declared.Route.{Route}
use Rattle.node.specs.Matching.{first_match}
use Rattle.node.specs.Accepted.{record_at}
use Rattle.node.specs.Calls.{Left, Link}
use Rattle.node.specs.Calls.Call.{Received}
use Rattle.demands.specs.Pairs.{Done}

-- The event that a call says, the record that it leaves, and the telegram that it writes, by its number (0: none) and its bytes.
pub record Effect : Type 0 where
  pub event : Event
  pub after : Record
  pub number : ℕ
  pub telegram : List ℕ

-- A call that was given the buffer d did this with the record at a place. The telegram stands at the start of the buffer, the rest of which is as it was.
pub record Does (l : Left) (d : List ℕ) (place : ℕ) (x : Effect) : Type 0 where
  pub says : l.outcome.event ≡ x.event
  pub leaves : record_at l.table place ≡ x.after
  pub writes : l.outcome.answer.telegram ≡ x.number
  pub size : l.outcome.answer.length ≡ length x.telegram
  pub buffer : l.out ≡ x.telegram ++ drop (length x.telegram) d

-- f_00 where the state stays, and f_13, whose time is not saved: nothing at all.
abbrev pub nothing : Record → Effect
nothing r = record { event = Nothing; after = r; number = 0; telegram = [] }

-- f_01, opening: a request under a random number, which is the sequence number too (5.2.1.3); a confirm is awaited.
abbrev pub asking : Record → ℕ → ℕ → ℕ → ℕ → List ℕ → Effect
asking r own time random declared net =
    record { event = Nothing; after = become r 2 (next random) 0 declared 0 time 0; number = 1; telegram = request (end_of r own) random declared net }

-- f_02, a request t received: a confirm under our own random number (5.2.2); an authentication is awaited, under the number after the request's.
abbrev pub confirming : Record → ℕ → ℕ → ℕ → ℕ → List ℕ → List ℕ → Effect
confirming r own time random declared t net =
    record {
      event = Nothing;
      after = become r 3 (next random) (next (random_of t)) declared (idle_time_of t) time time;
      number = 2;
      telegram = confirm (end_of r own) random declared net;
    }

-- f_03, a confirm t received: an authentication from its random number (5.2.3); an acknowledgement is awaited, under the number after it.
abbrev pub authenticating : Record → ℕ → ℕ → List ℕ → Effect
authenticating r own time t =
    record {
      event = Nothing;
      after = become r 4 (next r.sending) (next (random_of t)) r.declared (idle_time_of t) time time;
      number = 3;
      telegram = authentication (end_of r own) r.sending (random_of t);
    }

-- f_04, an authentication received: an acknowledgement from the request's random number (5.2.4), which is one before the number expected; open.
abbrev pub acknowledging : Record → ℕ → ℕ → Effect
acknowledging r own time =
    record {
      event = Opened;
      after = become r 5 (next r.sending) (next r.expected) r.declared r.watched time time;
      number = 4;
      telegram = acknowledgement (end_of r own) r.sending (back 1 r.expected);
    }

-- A telegram taken, and this said: open, one number further, and the watch begins anew.
abbrev pub taking : Record → ℕ → Event → Effect
taking r time e = record { event = e; after = become r 5 r.sending (next r.expected) r.declared r.watched r.sent_at time; number = 0; telegram = [] }

-- f_12, f_09 and f_10: an acknowledgement, a data telegram t, an idle telegram received.
abbrev pub opening : Record → ℕ → Effect
opening r time = taking r time Opened

abbrev pub handing_up : Record → ℕ → List ℕ → Effect
handing_up r time t = taking r time (Data (low_of t) (net_part t).start (net_part t).count)

abbrev pub taking_idle : Record → ℕ → Effect
taking_idle r time = taking r time Nothing

-- A telegram sent on an open connection, by its number and bytes: one number further, and our own idle time begins anew.
abbrev pub sending : Record → ℕ → ℕ → List ℕ → Effect
sending r time number telegram =
    record { event = Nothing; after = become r 5 (next r.sending) r.expected r.declared r.watched time r.taken_at; number = number; telegram = telegram }

-- f_06 and f_05: an idle telegram, a data telegram.
abbrev pub sending_idle : Record → ℕ → ℕ → Effect
sending_idle r own time = sending r time 6 (idle (end_of r own) r.sending)

abbrev pub sending_data : Record → ℕ → ℕ → ℕ → List ℕ → Effect
sending_data r own time low net = sending r time 7 (data_telegram (end_of r own) r.sending low net)

-- f_07, f_08 and f_11, which saves no time, closing with a reason, finally or not: a disconnect under the number from before closing, with type, reason and
-- text (5.2.5).
abbrev pub closing : Record → ℕ → ℕ → Bool → List ℕ → Effect
closing r own reason last text =
    record { event = Closed reason last; after = closed_by last r; number = 5; telegram = disconnect (end_of r own) r.sending (pick last 0 1) reason text }

-- f_00 towards Idle, a disconnect of the partner: closed with its reason, finally where its type says so; nothing is written.
abbrev pub closed_by_partner : Record → ℕ → Bool → Effect
closed_by_partner r reason last = record { event = Closed reason last; after = closed_by last r; number = 0; telegram = [] }

-- A telegram received, with all that the call is given.
pub record Receipt : Type 0 where
  pub route : Route
  pub random : ℕ
  pub idle_time : Option ℕ
  pub telegram : List ℕ
  pub net : List ℕ
  pub head : Head
  pub table : List Record
  pub time : ℕ
  pub buffer : List ℕ

abbrev pub takes : Link → Receipt → Left
takes link x = link (Received x.route x.random x.idle_time x.telegram x.net) x.head x.table x.time x.buffer

-- The record that it is for, and where that stands.
abbrev pub place_for : Receipt → ℕ
place_for x = first_match x.route x.table

abbrev pub record_for : Receipt → Record
record_for x = record_at x.table (place_for x)

-- It passes the check of that record, at the number that it expects now; and of which kind it is.
abbrev pub Passing : Receipt → Type 0
Passing x = check_of (end_of (record_for x) x.head.own) (expected_now (record_for x)) x.telegram ≡ Passes

abbrev pub kind_of : Receipt → Kind
kind_of x = kind_of_command (command_of x.telegram)

-- Where it is done, this is what it does.
abbrev pub ReceiptDoes : Link → Receipt → Effect → Type 0
ReceiptDoes link x e = Done (takes link x) → Does (takes link x) x.buffer (place_for x) e
