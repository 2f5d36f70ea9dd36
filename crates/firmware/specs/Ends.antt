-- An end of a connection from the plain numbers that C passes.
-- Assumes nothing.
use Rattle.std.specs.Prelude.{ℕ}
use Rattle.telegram.specs.declared.End.{End}

abbrev pub end_of : ℕ → ℕ → ℕ → ℕ → ℕ → End
end_of own partner partnerSap localSap level =
    record { own = own; partner = partner; partner_sap = partnerSap; local_sap = localSap; level = level }
