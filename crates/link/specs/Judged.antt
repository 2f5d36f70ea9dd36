-- What a received telegram or a tick asks for: by the transition table, narrowed where the scope asks for more than the table knows. Order when several hold:
-- wait or watch run out, the check's clauses, the phase, the authentication number or version; on a tick closing before idle.
-- Assumes nothing.
use Rattle.std.specs.Prelude.{ℕ, ◌+◌, ◌-◌, ◌%◌, ◌^◌, Bool, true, false, List, [], ◌∷◌, ◌==◌, nat_le}
use Rattle.ground.specs.Choice.{pick, all}
use Rattle.std.specs.Prelude.{Ok, Err}
use Rattle.telegram.specs.Fields.{version_x_of, version_y_of, authentication_of}
use Rattle.telegram.specs.Commands.{kind_of_command}
use Rattle.telegram.specs.Telegrams.{authentication_number}
use Rattle.telegram.specs.Check.{command_of, check_of, Check}
use Rattle.telegram.specs.declared.Kind.{Kind}
use Rattle.telegram.specs.declared.Kind.TheVariants as kind
use Rattle.link.specs.Records.{end_of}
use Rattle.link.specs.Times.{wait_over, watch_over, idle_due}
use Rattle.link.specs.Table.{Action, Next, Row, reading, f00, f01, f02, f03, f04, f05, f06, f07, f08, f09, f10, f11, f12, f13, stays, idle, wConAck, wAuthReq, wAuthAck, opens, defect, Connect-snd, Data-snd, Timeout-snd, Timeout-rcv, Timeout-brk, Data-rcv, Idle-rcv, Incorrect-rcv-1st, Incorrect-rcv-2nd, ConReq-rcv, ConAck-rcv, AuthReq-rcv, AuthAck-rcv, Discon-snd, FDiscon-snd, Discon-rcv}
use Rattle.link.specs.declared.Record.{Record}
use Rattle.link.specs.declared.Verdict.{Verdict}
use Rattle.link.specs.declared.Verdict.TheVariants.{Nothing, Confirm, Authenticate, Acknowledge, Open, Data, Idle, SendIdle, Disconnected, Close}

-- The row of a telegram that passes the check.
abbrev pub row_of : Kind → Row
row_of kind.Request = ConReq-rcv
row_of kind.Confirm = ConAck-rcv
row_of kind.Authentication = AuthReq-rcv
row_of kind.Acknowledgement = AuthAck-rcv
row_of kind.Disconnect = Discon-rcv
row_of kind.Idle = Idle-rcv
row_of kind.Data = Data-rcv
row_of kind.Unknown = Incorrect-rcv-1st

-- The reason with which a row closes in a phase (5.2.5.7, 5.2.5.8): 02h a confirm not in time, 03h an error during authentication, 04h set-up on an open
-- connection, 05h the idle watch, 06h an incorrect telegram.
abbrev pub reason_for : Row → ℕ → ℕ
reason_for Timeout-brk p = pick (p == 2) 0x02 0x03
reason_for Timeout-rcv p = 0x05
reason_for Incorrect-rcv-1st p = 0x06
reason_for Incorrect-rcv-2nd p = 0x06
reason_for ConReq-rcv p = pick (p == 5) 0x04 0x03
reason_for ConAck-rcv p = pick (p == 5) 0x04 0x03
reason_for AuthReq-rcv p = pick (p == 5) 0x04 0x03
reason_for AuthAck-rcv p = pick (p == 5) 0x04 0x03
reason_for Data-rcv p = 0x03
reason_for Idle-rcv p = 0x03
reason_for Connect-snd p = 0x00
reason_for Data-snd p = 0x00
reason_for Timeout-snd p = 0x00
reason_for Discon-snd p = 0x00
reason_for FDiscon-snd p = 0x00
reason_for Discon-rcv p = 0x00

-- No operation: the partner has closed where the next state is Idle.
abbrev pub quiet : Next → Verdict
quiet idle = Disconnected
quiet stays = Nothing
quiet wConAck = Nothing
quiet wAuthReq = Nothing
quiet wAuthAck = Nothing
quiet opens = Nothing
quiet defect = Nothing

-- What an action asks for (5.5.1.4); f_11 and f_13 save a time that the record has no place for.
abbrev pub verdict_of : Action → Next → ℕ → Verdict
verdict_of f00 n reason = quiet n
verdict_of f01 n reason = Nothing
verdict_of f02 n reason = Confirm
verdict_of f03 n reason = Authenticate
verdict_of f04 n reason = Acknowledge
verdict_of f05 n reason = Nothing
verdict_of f06 n reason = SendIdle
verdict_of f07 n reason = Close reason false
verdict_of f08 n reason = Close reason true
verdict_of f09 n reason = Data
verdict_of f10 n reason = Idle
verdict_of f11 n reason = Close reason false
verdict_of f12 n reason = Open
verdict_of f13 n reason = Nothing

abbrev pub ruled : Row → ℕ → Verdict
ruled row p = verdict_of (reading row p).action (reading row p).next (reason_for row p)

-- Versions of a request or confirm (8): X = 3 and Y = 0; Z is free.
unfoldable pub good_version : List ℕ → Bool
good_version t = all ((version_x_of t == 3) ∷ (version_y_of t == 0) ∷ [])

-- The number n before x, modulo 2^32.
abbrev pub back : ℕ → ℕ → ℕ
back n x = (x + (2 ^ 32 - n)) % 2 ^ 32

-- Whether an authentication number is our random number, changed as the level asks (5.1.4). Ours is n before the number that we send next.
unfoldable pub good_number : Record → ℕ → List ℕ → Bool
good_number r n t = authentication_of t == authentication_number r.level (back n r.sending)

-- What the table leaves open: the version of a request (else it is dropped) and of a confirm (else 01h, finally, 5.2.5.8.2), and the authentication number
-- (else 03h, finally, 5.2.5.8.3).
abbrev pub narrowed : Verdict → Record → List ℕ → Verdict
narrowed Confirm r t = pick (good_version t) Confirm Nothing
narrowed Authenticate r t = pick (good_version t) Authenticate (Close 0x01 true)
narrowed Acknowledge r t = pick (good_number r 1 t) Acknowledge (Close 0x03 true)
narrowed Open r t = pick (good_number r 2 t) Open (Close 0x03 true)
narrowed Nothing r t = Nothing
narrowed Data r t = Data
narrowed Idle r t = Idle
narrowed SendIdle r t = SendIdle
narrowed Disconnected r t = Disconnected
narrowed (Close reason last) r t = Close reason last

-- A telegram that passes the check, of kind k.
unfoldable pub passed : Record → Kind → List ℕ → Verdict
passed r k t = narrowed (ruled (row_of k) r.phase) r t

-- By what the check found.
abbrev pub checked_by : Check → Record → List ℕ → Verdict
checked_by (Ok done) r t = passed r (kind_of_command (command_of t)) t
checked_by (Err why) r t = ruled Incorrect-rcv-1st r.phase

-- The number expected: while nothing is awaited, or a confirm is, 0.
unfoldable pub expected_now : Record → ℕ
expected_now r = pick (nat_le 3 r.phase) r.expected 0

-- Which timer runs: the acknowledgement timeout while something is awaited, the watch on an open connection.
unfoldable pub run_out : Record → ℕ → Bool
run_out r time = pick (r.phase == 5) (watch_over r time) (pick (nat_le 2 r.phase) (pick (nat_le r.phase 4) (wait_over r time) false) false)

unfoldable pub run_out_verdict : ℕ → Verdict
run_out_verdict p = pick (p == 5) (ruled Timeout-rcv p) (ruled Timeout-brk p)

-- A received telegram.
unfoldable pub judged : Record → ℕ → ℕ → List ℕ → Verdict
judged r own time t = pick (run_out r time) (run_out_verdict r.phase) (checked_by (check_of (end_of r own) (expected_now r) t) r t)

-- What a tick can ask for of a verdict, by the three rows of 5.5.1.5 that are timeouts: an idle telegram or a closing. All else needs a telegram.
abbrev pub on_tick : Verdict → Verdict
on_tick SendIdle = SendIdle
on_tick (Close reason last) = Close reason last
on_tick Nothing = Nothing
on_tick Confirm = Nothing
on_tick Authenticate = Nothing
on_tick Acknowledge = Nothing
on_tick Open = Nothing
on_tick Data = Nothing
on_tick Idle = Nothing
on_tick Disconnected = Nothing

-- A tick: closing comes before idle, and idle is due on an open connection only.
unfoldable pub ticked : Record → ℕ → Verdict
ticked r time =
    pick (run_out r time) (run_out_verdict r.phase) (pick (r.phase == 5) (pick (idle_due r time) (ruled Timeout-snd r.phase) Nothing) Nothing)
