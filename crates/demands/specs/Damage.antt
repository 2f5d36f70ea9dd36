-- Damage on the cable: a telegram that passes the check of a record, changed on its way within as many neighbouring bytes as its check word has, passes it no
-- more; and what the record does with it. crates/worked/specs has worked examples, in Damage.antt, and what isn't so, in DamageLimits.antt.
-- Assumes nothing.
use Rattle.std.specs.Prelude.{◌≡◌, false, List, [], ◌++◌, ◌⊎◌, ℕ, ◌*◌, ◌≤◌, length, take, drop, Option}
use Rattle.checkword.specs.Bytes.{Bytes, Within}
use Rattle.checkword.specs.Polynomial.{Generator}
use Rattle.checkword.specs.Word.{Agrees}
use Rattle.telegram.specs.Levels.{width, word_length}
use Rattle.telegram.specs.Commands.{kind_of_command}
use Rattle.telegram.specs.Ends.{mirrored}
use Rattle.telegram.specs.Check.{command_of, covered, check_of, Check, Passes, Failed}
use Rattle.telegram.specs.declared.Kind.TheVariants.{Request, Confirm}
use Rattle.telegram.specs.declared.Clause.TheVariants as clause
use Rattle.link.specs.Records.{end_of}
use Rattle.link.specs.Judged.{expected_now}
use Rattle.link.specs.declared.Record.{Record}
use Rattle.link.specs.declared.Event.TheVariants.{Nothing}
use Rattle.node.specs.declared.Head.{Head}
use Rattle.node.specs.declared.Route.{Route}
use Rattle.node.specs.Accepted.{record_at}
use Rattle.node.specs.Matching.{first_match}
use Rattle.node.specs.Calls.{Left, called}
use Rattle.node.specs.Calls.Call.{Received}
use Rattle.node.specs.Plain.{data_of}
use Rattle.demands.specs.Pairs.{Done, InTime, Listens, Nodes, Towards, Moment, Arrives}
use Rattle.demands.specs.Demand2.{IsClosed, ClosedWith}
use Rattle.demands.specs.Demand3.{Wrote, end_at}

-- Over the width. For any width w and its generator g: two strings of bytes, each with a check word of w bits behind it, that differ, and only within n neighbouring bytes, as many
-- as the width has room for, don't both agree with their check words.
abbrev pub SeenOverTheWidth : Type 0
SeenOverTheWidth =
    (w g n k : ℕ) → Generator w g → w ≡ 8 * k → 8 * n ≤ w → (a b c d : List ℕ) → Bytes a → Bytes b → Bytes c → Bytes d → length c ≡ k → length d ≡ k
    → Within n (a ++ c) (b ++ d) → (a ++ c ≡ b ++ d → ⊥) → Agrees w g a c → Agrees w g b d → ⊥

-- The bytes before the check word of a telegram of level l, and its check word.
abbrev pub body_of : ℕ → List ℕ → List ℕ
body_of l t = take (covered l t) t

abbrev pub word_of : ℕ → List ℕ → List ℕ
word_of l t = drop (covered l t) t

-- A telegram t was changed, and u came: bytes, of the same length, and at least one differs.
pub record Changed (t u : List ℕ) : Type 0 where
  pub bytes : Bytes t
  pub came : Bytes u
  pub one_length : length t ≡ length u
  pub differs : t ≡ u → ⊥

-- Where all the changes of a telegram of level l lie.
pub data Damage (n l : ℕ) (t u : List ℕ) : Type 0 where
  -- within n neighbouring bytes before the check word, which came as it was
  before_the_word : Within n (body_of l t) (body_of l u) → word_of l t ≡ word_of l u → Damage n l t u
  -- in the check word, and what stands before it came as it was
  in_the_word : body_of l t ≡ body_of l u → Damage n l t u

-- A connect request or confirm; every other telegram.
abbrev pub Connect : List ℕ → Type 0
Connect t = (kind_of_command (command_of t) ≡ Request) ⊎ (kind_of_command (command_of t) ≡ Confirm)

abbrev pub OtherThanConnect : List ℕ → Type 0
OtherThanConnect t = Connect t → ⊥

-- The check fails: at the number, at a fixed field or at the check word. Level, command and length are those of a telegram that passes.
abbrev pub Fails : Check → Type 0
Fails c = (c ≡ Failed clause.Number) ⊎ ((c ≡ Failed clause.Fields) ⊎ (c ≡ Failed clause.Word))

-- If t passes the check under a record of the node with this address at the expected number m, u fails it under the same record at the same number.
abbrev pub Found : Record → ℕ → ℕ → List ℕ → List ℕ → Type 0
Found r own m t u = check_of (end_of r own) m t ≡ Passes → Fails (check_of (end_of r own) m u)

-- The request, at the width of the record's level: a telegram that passes is changed within n neighbouring bytes before its check word, as many as the width has room for, or in
-- its check word, leaving length and command byte. Then it is found.
abbrev pub DamageIsFound : Type 0
DamageIsFound =
    (r : Record) (own m n : ℕ) (t u : List ℕ) → 8 * n ≤ width r.level → OtherThanConnect t → Changed t u → command_of t ≡ command_of u → Damage n r.level t u
    → Found r own m t u

-- These are six bytes at level 4 ..
abbrev pub DamageIsFoundAt4 : Type 0
DamageIsFoundAt4 =
    (r : Record) (own m : ℕ) (t u : List ℕ) → r.level ≡ 4 → OtherThanConnect t → Changed t u → command_of t ≡ command_of u → Damage 6 4 t u
    → Found r own m t u

-- .. and four at level 2.
abbrev pub DamageIsFoundAt2 : Type 0
DamageIsFoundAt2 =
    (r : Record) (own m : ℕ) (t u : List ℕ) → r.level ≡ 2 → OtherThanConnect t → Changed t u → command_of t ≡ command_of u → Damage 4 2 t u
    → Found r own m t u

-- Connect requests and confirms. They are checked with their own random number, whose upper 24 bits, bytes 4 to 6, are implicit bytes too, so that a change there is one at
-- two places. It is found all the same. The check word alone misses five such changes, as docs/DAMAGE.md lists them: one at each level after which byte 3 is not byte 1 any more, and three at level 2, in
-- bytes 5 to 8, after which the idle time is no multiple of 100.
abbrev pub ConnectDamageIsFound : Type 0
ConnectDamageIsFound =
    (r : Record) (own m n : ℕ) (t u : List ℕ) → 8 * n ≤ width r.level → Connect t → Changed t u → command_of t ≡ command_of u → Damage n r.level t u
    → Found r own m t u

-- So of every telegram; and the neighbouring bytes may lie anywhere in it, across the start of the check word too.
abbrev pub DamageAnywhereIsFound : Type 0
DamageAnywhereIsFound =
    (r : Record) (own m n : ℕ) (t u : List ℕ) → 8 * n ≤ width r.level → Changed t u → command_of t ≡ command_of u → Within n t u → Found r own m t u

-- The command byte may be among them, as long as both telegrams are connect requests or confirms, or neither is: what came then doesn't pass. Every clause can be the one that
-- fails.
abbrev pub SameSort : List ℕ → List ℕ → Type 0
SameSort t u = (Connect t → Connect u) × (Connect u → Connect t)

abbrev pub DamagedCommandIsFound : Type 0
DamagedCommandIsFound =
    (r : Record) (own m n : ℕ) (t u : List ℕ) → 8 * n ≤ width r.level → SameSort t u → Changed t u → Within n t u
    → check_of (end_of r own) m t ≡ Passes → check_of (end_of r own) m u ≡ Passes → ⊥

-- Where the partner's end wrote the telegram, any of the seven, that it passes need not be asked: under a number k that is the one expected, or, of a connect request or confirm,
-- under any random number.
abbrev pub WrittenDamageIsFound : Type 0
WrittenDamageIsFound =
    (r : Record) (own k m n : ℕ) (t u : List ℕ) → 8 * n ≤ width r.level → Changed t u → command_of t ≡ command_of u → Within n t u
    → Wrote (mirrored (end_of r own)) k t → Connect t ⊎ (k ≡ m) → Fails (check_of (end_of r own) m u)

-- What the receiving node does then.

-- A telegram t for the record at place i would pass its check, at the number that it expects now; u comes instead, changed within as many neighbouring bytes as the check word has.
pub record ComesDamaged (w : Route) (h : Head) (table : List Record) (i : ℕ) (t u : List ℕ) : Type 0 where
  pub place : first_match w table ≡ i
  pub passes : check_of (end_at h table i) (expected_now (record_at table i)) t ≡ Passes
  pub changed : Changed t u
  pub command : command_of t ≡ command_of u
  pub within : Within (word_length (record_at table i).level) t u

-- The call closes the record at this place with 06h, not finally (5.2.5.7.3), with a disconnect, and hands up nothing of the telegram.
pub record TurnedAway (l : Left) (h : Head) (table : List Record) (d : List ℕ) (place : ℕ) (telegram : List ℕ) : Type 0 where
  pub closed : IsClosed l h table d place 0x06 false []
  pub nothing_up : data_of l.outcome.event telegram ≡ []

abbrev pub DamageCloses : Type 0
DamageCloses =
    (w : Route) (random : ℕ) (idle_time : Option ℕ) (t u net : List ℕ) (h : Head) (table : List Record) (i time : ℕ) (d : List ℕ)
    → ComesDamaged w h table i t u → Listens (record_at table i) time → Done (called (Received w random idle_time u net) h table time d)
    → TurnedAway (called (Received w random idle_time u net) h table time d) h table d i u

-- Where its disconnect arrives, the partner's end is closed with 06h too.
abbrev pub DamageClosesBoth : Type 0
DamageClosesBoth =
    (n : Nodes) (i j random : ℕ) (idle_time : Option ℕ) (w : Route) (t u net : List ℕ) (m : Moment) → Towards n i j → ComesDamaged w n.head n.table i t u
    → InTime (record_at n.table i) m.sent_at → Arrives called n i j (Received w random idle_time u net) m
    → ClosedWith called n i j (Received w random idle_time u net) m 0x06 false []

-- The call says nothing, writes nothing, and leaves table and buffer as they were.
pub record Dropped (l : Left) (table : List Record) (d : List ℕ) : Type 0 where
  pub says_nothing : l.outcome.event ≡ Nothing
  pub writes_nothing : l.outcome.answer.telegram ≡ 0
  pub same_table : l.table ≡ table
  pub same_buffer : l.out ≡ d

-- So it is on a closed record (1), of every telegram: a damaged connect request sets up no connection.
abbrev pub DamageIsDroppedWhenClosed : Type 0
DamageIsDroppedWhenClosed =
    (w : Route) (random : ℕ) (idle_time : Option ℕ) (t u net : List ℕ) (h : Head) (table : List Record) (i time : ℕ) (d : List ℕ)
    → ComesDamaged w h table i t u → (record_at table i).phase ≡ 1 → Done (called (Received w random idle_time u net) h table time d)
    → Dropped (called (Received w random idle_time u net) h table time d) table d

-- All of it. The first four are the request; the others are what a user may ask next.
pub record DamageOnTheCable : Type 0 where
  pub over_the_width : SeenOverTheWidth
  pub at_each_level : DamageIsFound
  pub at_4 : DamageIsFoundAt4
  pub at_2 : DamageIsFoundAt2
  pub connect : ConnectDamageIsFound
  pub anywhere : DamageAnywhereIsFound
  pub command_too : DamagedCommandIsFound
  pub written : WrittenDamageIsFound
  pub closes : DamageCloses
  pub closes_both : DamageClosesBoth
  pub dropped : DamageIsDroppedWhenClosed
