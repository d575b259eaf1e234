-- Two cards that are the same for one channel, and what keeps them so.
use Rattle.std.proofs.Common.{◌≡◌, ℕ, ◌<◌, Bool, true, false, cond, ltb, List, length, get_or, set, sym, refl, ap, ◌∙◌, zero-add, arith, length-set, get_or-set_other, get_or-set_same}
use Rattle.channel.specs.declared.act.Act.{Act}
use Rattle.channel.specs.declared.channel.Channel.{Channel}
use Rattle.channel.specs.Shares.{performed}
use Rattle.table.specs.Tables.{acted, changed}
use Rattle.table.proofs.Loops.{get_d_changed, length_changed}
use Rattle.card.specs.declared.Card.{Card}
use Rattle.card.specs.declared.shared.Shared.{Shared}
use Rattle.card.specs.Records.{blank, channel_of, with_channel, with_shared, with_table}
use Rattle.card.specs.SharedRegisters.{on_all}

-- the shared part as channel k has it: without the overflow, and without the other half's output enable
abbrev pub shared_for : ℕ → Shared → Shared
shared_for k s = record {
  test_enabled = s.test_enabled;
  timer_triggers = s.timer_triggers;
  overflow = false;
  input_debounce = s.input_debounce;
  low_outputs = cond (ltb k 4) s.low_outputs false;
  high_outputs = cond (ltb k 4) false s.high_outputs;
  timer = s.timer;
  timer_interrupt = s.timer_interrupt;
  clear_on_read = s.clear_on_read;
  scratchpad = s.scratchpad;
}

-- what every card keeps: eight records, and a debouncing time of 16 bits
pub record Sound (c : Card) : Type 0 where
  pub eight : length c.channels ≡ 8
  pub time : c.shared.input_debounce.time < 65536

pub record Same (k : ℕ) (c d : Card) : Type 0 where
  pub left : Sound c
  pub right : Sound d
  pub channel : channel_of k c ≡ channel_of k d
  pub shared : shared_for k c.shared ≡ shared_for k d.shared

pub same_sym : {k : ℕ} {c d : Card} → Same k c d → Same k d c
same_sym s = record { left = s.right; right = s.left; channel = sym s.channel; shared = sym s.shared }

pub same_trans : {k : ℕ} {c d e : Card} → Same k c d → Same k d e → Same k c e
same_trans s t = record { left = s.left; right = t.right; channel = s.channel ∙ t.channel; shared = s.shared ∙ t.shared }

pub same_self : {k : ℕ} {c : Card} → Sound c → Same k c c
same_self s = record { left = s; right = s; channel = refl; shared = refl }

-- where a test decides
pub same_if : {k : ℕ} {x y x' y' : Card} (b : Bool) → (b ≡ true → Same k x y) → Same k x' y' → Same k (cond b x x') (cond b y y')
same_if true s t = s refl
same_if false s t = t

pub same_cond : {k : ℕ} {x y x' y' : Card} (b e : Bool) → b ≡ e → Same k x y → Same k x' y' → Same k (cond b x x') (cond e y y')
same_cond b e q s t = rw (← q) (same_if b (λ _. s) t)

-- another table, another shared part
pub same_table : {k : ℕ} {c d : Card} (cs ds : List Channel) → length cs ≡ 8 → length ds ≡ 8 → get_or cs k blank ≡ get_or ds k blank
    → Same k c d → Same k (with_table cs c) (with_table ds d)
same_table cs ds p q e s = record {
  left = record { eight = p; time = s.left.time };
  right = record { eight = q; time = s.right.time };
  channel = e;
  shared = s.shared;
}

pub same_shared : {k : ℕ} {c d : Card} (s t : Shared) → s.input_debounce.time < 65536 → t.input_debounce.time < 65536
    → shared_for k s ≡ shared_for k t → Same k c d → Same k (with_shared s c) (with_shared t d)
same_shared s t p q e u = record {
  left = record { eight = u.left.eight; time = p };
  right = record { eight = u.right.eight; time = q };
  channel = u.channel;
  shared = e;
}

-- every record is changed at its place
pub same_changed : {k : ℕ} {c d : Card} (f g : ℕ → Channel → Channel) → k < 8 → ((x : Channel) → f k x ≡ g k x)
    → Same k c d → Same k (with_table (changed f 0 8 c.channels) c) (with_table (changed g 0 8 d.channels) d)
same_changed {k} {c} {d} f g h e s = same_table (changed f 0 8 c.channels) (changed g 0 8 d.channels)
    (length_changed f 0 8 c.channels ∙ s.left.eight) (length_changed g 0 8 d.channels ∙ s.right.eight)
    (at f c.channels s.left.eight ∙ e (channel_of k c) ∙ ap (g k) s.channel ∙ sym (at g d.channels s.right.eight)) s
  where
    at : (f : ℕ → Channel → Channel) (cs : List Channel) → length cs ≡ 8 → get_or (changed f 0 8 cs) k blank ≡ f k (get_or cs k blank)
    at f cs l = get_d_changed f 0 8 k k cs blank h (omega arith) (zero-add k)

pub same_acts : {k : ℕ} {c d : Card} (a b : Act) → k < 8 → ((x : Channel) → performed a k x ≡ performed b k x)
    → Same k c d → Same k (on_all a c) (on_all b d)
unfolding acted
same_acts a b h e s = same_changed (performed a) (performed b) h e s

-- the channel's own record is replaced
pub same_own : {k : ℕ} {c d : Card} (j : ℕ) (x y : Channel) → k < 8 → j ≡ k → x ≡ y → Same k c d → Same k (with_channel j x c) (with_channel j y d)
same_own {k} {c} {d} j x y h e p s = same_table (set c.channels j x) (set d.channels j y)
    (length-set c.channels j x ∙ s.left.eight) (length-set d.channels j y ∙ s.right.eight)
    (placed c.channels x s.left.eight ∙ p ∙ sym (placed d.channels y s.right.eight)) s
  where
    placed : (cs : List Channel) (z : Channel) → length cs ≡ 8 → get_or (set cs j z) k blank ≡ z
    placed cs z l = rw e (get_or-set_same cs k z blank (omega arith))

-- another channel's record is replaced
pub same_other : {k : ℕ} (c : Card) (j : ℕ) (x : Channel) → (j ≡ k → ⊥) → Sound c → Same k (with_channel j x c) c
same_other {k} c j x n s = same_table (set c.channels j x) c.channels (length-set c.channels j x ∙ s.eight) s.eight
    (get_or-set_other c.channels j k x blank (λ q. n (sym q))) (same_self s)
