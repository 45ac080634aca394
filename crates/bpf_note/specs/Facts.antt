-- Stated: claims rest on this file.
-- What is known of a state, part by part. (The rules that make it are this verifier's own.)
use Rattle.std.specs.Prelude.{ℕ, ◌/◌, Option, None, Some, Bool, true, false, ◌||◌, if◌then◌else◌, ◌==◌, pos, option_map}
use Rattle.bpf_note.specs.declared.val.Val.{Val}
use Rattle.bpf_note.specs.declared.val.Val.TheVariants.{Unset, Num, Pkt, Stack, Ctx, MaybeValue}
use Rattle.bpf_note.specs.State.{put}

-- the value of each register; the value that a slot of eight stack bytes keeps, if it keeps one; whether a stack byte is
-- set; and each id's greatest base and safe bound
pub record Facts : Type 0 where
  pub reg : ℕ → Val
  pub kept : ℕ → Option Val
  pub set : ℕ → Bool
  pub top : ℕ → ℕ
  pub safe : ℕ → Option ℕ

-- any number of 64 bits
abbrev pub full : Val
full = Num 0 0xFFFFFFFFFFFFFFFF

-- the id of the packet's start
abbrev pub packet_id : ℕ
packet_id = 0xFFFF

abbrev pub is_unset : Val → Bool
is_unset Unset = true
is_unset v = false

abbrev pub with_reg : Facts → ℕ → Val → Facts
with_reg n k v = record { reg = put n.reg k v; kept = n.kept; set = n.set; top = n.top; safe = n.safe }

-- slot j keeps a value, so its eight bytes are set
abbrev pub with_kept : Facts → ℕ → Val → Facts
with_kept n j v = record { reg = n.reg; kept = put n.kept j (Some v); set = λ i. (i / 8 == j) || n.set i; top = n.top; safe = n.safe }

-- byte i is set, and its slot no longer keeps a value
abbrev pub with_byte : Facts → ℕ → Facts
with_byte n i = record { reg = n.reg; kept = put n.kept (i / 8) None; set = put n.set i true; top = n.top; safe = n.safe }

abbrev pub with_top : Facts → ℕ → ℕ → Facts
with_top n id t = record { reg = n.reg; kept = n.kept; set = n.set; top = put n.top id t; safe = n.safe }

abbrev pub with_safe : Facts → ℕ → Option ℕ → Facts
with_safe n id s = record { reg = n.reg; kept = n.kept; set = n.set; top = n.top; safe = put n.safe id s }

-- each value, in registers and kept slots, is replaced
abbrev pub with_each : Facts → (Val → Val) → Facts
with_each n f = record { reg = λ k. f (n.reg k); kept = λ j. option_map f (n.kept j); set = n.set; top = n.top; safe = n.safe }

-- a value that carries the id is any number
abbrev pub forgotten : ℕ → Val → Val
forgotten id (Pkt i off) = if i == id then full else Pkt i off
forgotten id (MaybeValue m i) = if i == id then full else MaybeValue m i
forgotten id v = v

-- an instruction makes its id: older copies of it are any number, its base is at most the top, nothing more is known
abbrev pub with_id : Facts → ℕ → ℕ → Facts
with_id n id t = record {
  reg = λ k. forgotten id (n.reg k);
  kept = λ j. option_map (forgotten id) (n.kept j);
  set = n.set;
  top = put n.top id t;
  safe = put n.safe id None;
}

-- a value's address or 0, once it is known what all that carry the id are
abbrev pub resolved : ℕ → Val → Val → Val
resolved id w (MaybeValue m i) = if i == id then w else MaybeValue m i
resolved id w v = v

abbrev pub entry_reg : ℕ → Val
entry_reg k = if k == 1 then Ctx else if k == 10 then Stack (pos 0) else Unset

-- what is known before the first instruction
abbrev pub entry : Facts
entry = record {
  reg = entry_reg;
  kept = λ j. None;
  set = λ i. false;
  top = λ id. 0;
  safe = λ id. None;
}
