-- Stated: claims rest on this file.
-- Through which register an instruction reaches memory.
use Rattle.std.specs.Prelude.{ℕ, pos, List, Option, None, Some, option_map, slice_get}
use Rattle.bpf_insn.specs.Size.{size_bytes}
use Rattle.bpf_insn.specs.Register.{number}
use Rattle.bpf_insn.specs.declared.insn.Insn.{Insn}
use Rattle.bpf_insn.specs.declared.insn.Insn.TheVariants.{Ldx, St, Stx, AddCounter, Call}
use Rattle.bpf_insn.specs.declared.register.Register.{Register}
use Rattle.bpf_insn.specs.declared.register.Register.TheVariants.{R2}
use Rattle.bpf_note.specs.Facts.{Facts}
use Rattle.bpf_note.specs.declared.val.Val.{Val}
use Rattle.bpf_note.specs.declared.val.Val.TheVariants.{Map, Unset}
use Rattle.bpf_note.specs.Shape.{Shape}
use Rattle.bpf_flow.specs.Call.{key_bytes}
use Rattle.bpf_explain.specs.declared.access.Access.{Access}

-- the address's register, the offset from it, and how many bytes; a call reaches the key that r2 is to point to, of four bytes or more
abbrev pub access_of : Insn → Option Access
access_of (Ldx size signed dst src off) = Some (record { base = src; off = off; bytes = size_bytes size })
access_of (St size dst off imm) = Some (record { base = dst; off = off; bytes = size_bytes size })
access_of (Stx size dst src off) = Some (record { base = dst; off = off; bytes = size_bytes size })
access_of (AddCounter fetch dst src off) = Some (record { base = dst; off = off; bytes = 8 })
access_of (Call helper) = Some (record { base = R2; off = pos 0; bytes = 4 })
access_of i = None

-- how many bytes a lookup's key has, r1 having this value: as the map's key, or four if it is no map
abbrev pub key_of : List Shape → Val → ℕ
key_of shapes (Map m) = key_bytes (slice_get shapes m)
key_of shapes v = 4

-- the access with all bytes of a lookup's key
abbrev pub access_at : List Shape → Facts → Insn → Option Access
access_at shapes n (Call helper) = Some (record { base = R2; off = pos 0; bytes = key_of shapes (n.reg 1) })
access_at shapes n i = access_of i

-- the address's register
abbrev pub base_of : Insn → Option Register
base_of i = option_map (λ (a : Access). a.base) (access_of i)

-- what is known of the address
abbrev pub address_at : Facts → Option Access → Val
address_at n None = Unset
address_at n (Some a) = n.reg (number a.base)

abbrev pub address_of : Facts → Insn → Val
address_of n i = address_at n (access_of i)
