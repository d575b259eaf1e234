-- What it says of the constants that they are in range.
use Rattle.std.proofs.Common.{◌≡◌, ◌*◌, ◌%◌, ◌^◌, ◌<◌, ◌≤◌, true, ◌&&◌, ltb, leb, arith}
use Rattle.std.proofs.lemmas.Bool.{and_parts, leb-true, ltb-true}
use Rattle.std.proofs.lemmas.Nat.{one_shl}
use Rattle.sensor.specs.declared.constants.Constants.{Constants}
use Rattle.sensor.specs.Range.{in_range, data_bits_fit, extra_bits_fit, recovery_fits}

-- the three parts
pub record Ranged (c : Constants) : Type 0 where
  pub least : 1 ≤ c.format.data_bits
  pub most : c.format.data_bits ≤ 32
  pub spare : c.format.extra_bits ≤ 7
  pub extra : c.extra < 2 ^ c.format.extra_bits
  pub slowest : 1000 ≤ c.recovery
  pub longest : c.recovery ≤ 3000

pub ranged : (c : Constants) → in_range c ≡ true → Ranged c
unfolding in_range
ranged c h =
    let parts = and_parts (data_bits_fit c) (extra_bits_fit c && recovery_fits c) h in
    let rest = and_parts (extra_bits_fit c) (recovery_fits c) parts.1 in
    let wide = and_parts (leb 1 c.format.data_bits) (leb c.format.data_bits 32) parts.0 in
    let spare = and_parts (leb c.format.extra_bits 7) (ltb c.extra (2 ^ c.format.extra_bits)) rest.0 in
    let paced = and_parts (leb 1000 c.recovery) (leb c.recovery 3000) rest.1 in
    record {
      least = leb-true 1 c.format.data_bits wide.0;
      most = leb-true c.format.data_bits 32 wide.1;
      spare = leb-true c.format.extra_bits 7 spare.0;
      extra = ltb-true c.extra (2 ^ c.format.extra_bits) spare.1;
      slowest = leb-true 1000 c.recovery paced.0;
      longest = leb-true c.recovery 3000 paced.1;
    }

-- at most 32 data bits
pub most_data : (c : Constants) → in_range c ≡ true → c.format.data_bits ≤ 32
most_data c h = (ranged c h).most

-- 1 shifted by the data bits
pub data_shifted : (c : Constants) → in_range c ≡ true → 1 * 2 ^ c.format.data_bits % 2 ^ 64 ≡ 2 ^ c.format.data_bits
data_shifted c h = one_shl c.format.data_bits 64 (omega (arith, most_data c h))
