-- The constants of the local clock; times are in milliseconds. Values and names are from SUBSET-059, 4.3.1.2; two names are shortened.
-- Assumes nothing.
use Rattle.std.specs.Prelude.{ℕ}

-- How many pairs make a factor (7.4.4.2.2).
abbrev pub pairs_of_factor : ℕ
pairs_of_factor = 16

-- 7.4.1.6.1
abbrev pub local_clock_max_re_sync_interval : ℕ
local_clock_max_re_sync_interval = 3000

-- MaxClockInaccuracyAfterAdjustFactor (7.4.3.5).
abbrev pub max_clock_inaccuracy : ℕ
max_clock_inaccuracy = 100

-- 7.4.3.6, 7.4.3.7
abbrev pub time_for_long_term_drift_check : ℕ
time_for_long_term_drift_check = 30000

-- MinNumberOfSyncAndRefMsgReceived (7.4.3.6).
abbrev pub min_number_of_messages : ℕ
min_number_of_messages = 18
