-- Stated: claims rest on this file.
-- Where the ways that meet at a slot are too many for a register to stay an address.
use Rattle.std.specs.Prelude.{ℕ, ◌≡◌, ◌<◌, List, [], ◌∷◌, ◌++◌, length, count_by, true}
use Rattle.bpf_insn.specs.declared.insn.Insn.{Insn}
use Rattle.bpf_note.specs.Facts.{Facts}
use Rattle.bpf_note.specs.Shape.{Shape}
use Rattle.bpf_verify.specs.Lost.{ComesWith, is_address, is_number}

-- the list has eight notes; the last, into which each further one is joined, gives register k a number, and `addresses` of the
-- first seven give it an address, at least one
pub record IsJoinedIn (list : List Facts) (k addresses : ℕ) : Type 0 where
  pub first : List Facts
  pub eighth : Facts
  pub parts : list ≡ first ++ eighth ∷ []
  pub seven : length first ≡ 7
  pub number : is_number (eighth.reg k) ≡ true
  pub count : count_by (λ n. is_address (n.reg k)) first ≡ addresses
  pub some : 0 < addresses

-- the second pass comes to slot p with such a list
pub record IsJoined (code : List Insn) (shapes : List Shape) (k p addresses : ℕ) : Type 0 where
  pub list : List Facts
  pub comes : ComesWith code shapes p list
  pub joined : IsJoinedIn list k addresses
