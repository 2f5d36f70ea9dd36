-- Two results that meet a promise are equal: a promise says what each part equals, and two things that equal a third are equal.
-- Assumes nothing.
use mathlib.Core.Path.{◌≡◌, sym, ◌∙◌}
use Rattle.demands.specs.Unique.{Ground, Digits, Checkword, Telegram, Writers, Checking, Link, LinkC, Firmware, Node, NodeC, Clock, ClockC, Uniqueness}

-- A promise that is one equation, two, three.
unique : {A : Type 0} {x : A} (r s : A) → r ≡ x → s ≡ x → r ≡ s
unique r s p q = p ∙ sym q

unique₂ : {A B : Type 0} {x : A} {y : B} (r s : A) (a b : B) → (r ≡ x) × (a ≡ y) → (s ≡ x) × (b ≡ y) → (r ≡ s) × (a ≡ b)
unique₂ r s a b p q = (unique r s p.0 q.0, unique a b p.1 q.1)

unique₃ : {A B C : Type 0} {x : A} {y : B} {z : C} (r s : A) (t u : B) (a b : C)
    → (r ≡ x) × ((t ≡ y) × (a ≡ z)) → (s ≡ x) × ((u ≡ y) × (b ≡ z)) → (r ≡ s) × ((t ≡ u) × (a ≡ b))
unique₃ r s t u a b p q = (unique r s p.0 q.0, unique₂ t u a b p.1 q.1)

ground : Ground
ground =
    record {
      byte = λ t at. unique;
      bytes_at = λ N t at. unique;
    }

digits : Digits
digits = record { low_at = λ low place. unique; high_at = λ high place. unique; low = λ R v. unique; high = λ R y v. unique }

checkword : Checkword
checkword =
    record {
      word48 = λ first second. unique;
      word32 = λ first second. unique;
    }

telegram : Telegram
telegram =
    record {
      in_range = λ end. unique;
      sending_bytes = λ end number count. unique;
      receiving_bytes = λ end number count. unique;
      level_of = λ command. unique;
      top_bits = λ level. unique;
      word_length = λ level. unique;
      added_number = λ level. unique;
      word_of = λ level first second. unique;
      is_data = λ low. unique;
      kind_of = λ low. unique;
      is_known = λ kind. unique;
      good_idle = λ time. unique;
      good_type = λ new_setup. unique;
      listed_reason = λ reason. unique;
      good_dual_bus = λ bus. unique;
      most_net = λ kind level. unique;
      length_suits = λ kind level length. unique;
      on_bus = λ length. unique;
      command_low = λ telegram. unique;
      kind_of_telegram = λ telegram. unique;
      random_number = λ telegram. unique;
      idle_time = λ telegram. unique;
      version_x = λ telegram. unique;
      version_y = λ telegram. unique;
      authentication_number = λ telegram. unique;
      disconnect_type = λ telegram. unique;
      disconnect_reason = λ telegram. unique;
      net_part = λ telegram. unique;
      net_data = λ telegram. unique;
    }

writers : Writers
writers =
    record {
      authentication_of = λ level received. unique;
      connect_allowed = λ time count level. unique;
      disconnect_allowed = λ new_setup reason count level. unique;
      data_allowed = λ low count level. unique;
      write_request = λ out end random time net. unique₂;
      write_confirm = λ out end random time net. unique₂;
      write_authentication = λ out end number received. unique₂;
      write_acknowledgement = λ out end number received. unique₂;
      write_disconnect = λ out end number new_setup reason text. unique₂;
      write_idle = λ out end number. unique₂;
      write_data = λ out end number low net. unique₂;
    }

checking : Checking
checking =
    record {
      checked = λ end expected telegram. unique;
      answer_number = λ check. unique;
    }

link : Link
link =
    record {
      record_in_range = λ «record» own. unique;
      fresh = λ partner partner_sap local_sap level. unique;
      «open» = λ «record» own time random idle net out. unique₂;
      close = λ «record» own new_setup reason text out. unique₂;
      send = λ «record» own time command net out. unique₂;
      received = λ «record» own time random idle telegram net out. unique₂;
      tick = λ «record» own time out. unique₂;
      idle_time_by = λ named time. unique;
      happened_from_event = λ event. unique;
      stepped_from_step = λ step. unique;
    }

link_c : LinkC
link_c =
    record {
      uj_link_open = λ «record» own time random named idle_time net out. unique₂;
      uj_link_close = λ «record» own new_setup reason text out. unique₂;
      uj_link_send = λ «record» own time command net out. unique₂;
      uj_link_received = λ «record» own time random named idle_time telegram net out. unique₂;
      uj_link_tick = λ «record» own time out. unique₂;
    }

firmware : Firmware
firmware =
    record {
      uj_write_request = λ own partner partner_sap local_sap level random idle_time net out. unique₂;
      uj_write_confirm = λ own partner partner_sap local_sap level random idle_time net out. unique₂;
      uj_write_authentication = λ own partner partner_sap local_sap level number received out. unique₂;
      uj_write_acknowledgement = λ own partner partner_sap local_sap level number received out. unique₂;
      uj_write_disconnect = λ own partner partner_sap local_sap level number new_setup reason text out. unique₂;
      uj_write_idle = λ own partner partner_sap local_sap level number out. unique₂;
      uj_write_data = λ own partner partner_sap local_sap level number command net out. unique₂;
      uj_check = λ own partner partner_sap local_sap level expected telegram. unique;
      uj_net_data = λ telegram. unique;
      uj_word48 = λ first second. unique;
      uj_word32 = λ first second. unique;
    }

node : Node
node =
    record {
      new_head = λ own. unique;
      table_accepted = λ table head. unique;
      first_match = λ table route. unique;
      route_by = λ sender destination_sap source_sap. unique;
      «open» = λ table head time place random idle net out. unique₃;
      close = λ table head time place new_setup reason text out. unique₃;
      send = λ table head time place command net out. unique₃;
      received = λ table head time route random idle telegram net out. unique₃;
      tick = λ table head time place out. unique₃;
      net_data = λ telegram event. unique;
      plain_outcome_from_outcome = λ outcome. unique;
    }

node_c : NodeC
node_c =
    record {
      uj_new_head = λ own. unique;
      uj_fresh = λ partner partner_sap local_sap level. unique;
      uj_open = λ table head time place random named idle_time net out. unique₃;
      uj_close = λ table head time place new_setup reason text out. unique₃;
      uj_send = λ table head time place command net out. unique₃;
      uj_received = λ table head time sender destination_sap source_sap random named idle_time telegram net out. unique₃;
      uj_tick = λ table head time place out. unique₃;
    }

clock : Clock
clock =
    record {
      new_clock = λ none. unique;
      read_message = λ bytes. unique;
      heard = λ c message local. unique;
      factor = λ c local. unique;
      reference_time = λ c local. unique;
      u32_from_event = λ event. unique;
      plain_reading_from_result_message_unreadable = λ read. unique;
      plain_factor_from_option_u32 = λ factor. unique;
      plain_time_from_option_ref_time = λ time. unique;
    }

clock_c : ClockC
clock_c =
    record {
      uj_clock_new = λ none. unique;
      uj_clock_read = λ bytes. unique;
      uj_clock_message = λ clock message local. unique₂;
      uj_clock_factor = λ clock local. unique;
      uj_clock_reference_time = λ clock local. unique;
    }

pub uniqueness : Uniqueness
uniqueness =
    record {
      ground = ground;
      digits = digits;
      checkword = checkword;
      telegram = telegram;
      writers = writers;
      checking = checking;
      link = link;
      link_c = link_c;
      firmware = firmware;
      node = node;
      node_c = node_c;
      clock = clock;
      clock_c = clock_c;
    }
