-- The constants that a sensor can have.
use Rattle.std.specs.Prelude.{◌^◌, Bool, ◌&&◌, nat_le, nat_lt}
use Rattle.sensor.specs.declared.constants.Constants.{Constants}

-- 1 to 32 data bits
abbrev pub data_bits_fit : Constants → Bool
data_bits_fit c = nat_le 1 c.format.data_bits && nat_le c.format.data_bits 32

-- 0 to 7 extra bits, and a value that fits them
abbrev pub extra_bits_fit : Constants → Bool
extra_bits_fit c = nat_le c.format.extra_bits 7 && nat_lt c.extra (2 ^ c.format.extra_bits)

-- recovery of 1,000 to 3,000 ticks
abbrev pub recovery_fits : Constants → Bool
recovery_fits c = nat_le 1000 c.recovery && nat_le c.recovery 3000

-- all three
unfoldable pub in_range : Constants → Bool
in_range c = data_bits_fit c && (extra_bits_fit c && recovery_fits c)
