-- Stated: claims rest on this file.
-- What becomes of a setup's program beside the one that it was made of. The runs are those from all starts, so with all lists that the
-- setup's maps can have, not with the setup's alone.
use Rattle.std.specs.Prelude.{ℕ, ◌≡◌, ◌<◌, List, ◌++◌, Option, None, Some, IfSome, codes, decimal, length, map}
use Rattle.bpf_insn.specs.Code.{Spells}
use Rattle.bpf_insn.specs.Refusal.{IsNoCode}
use Rattle.bpf_insn.specs.declared.insn.Insn.{Insn}
use Rattle.bpf_same.specs.Alone.{IsSameAlone}
use Rattle.bpf_same.specs.Counts.{IsSameByCounts, IsWholeByCounts}
use Rattle.bpf_same.specs.Renumbered.{IsRenumbering}
use Rattle.bpf_same.specs.Same.{IsSame}
use Rattle.bpf_same.specs.declared.obstacle.Obstacle.{Obstacle}
use Rattle.bpf_same.specs.declared.obstacle.ObstacleKind.{ObstacleKind}
use Rattle.bpf_same.specs.declared.obstacle.ObstacleKind.TheVariants as kind
use Rattle.bpf_same.specs.declared.witness.Witness.{Witness}
use Rattle.bpf_verify.specs.Consistent.{Accepted as Program}
use Rattle.xdp_load.specs.Original.{Place, RewrittenView}
use Rattle.xdp_load.specs.OriginalSeen.{place_view}
use Rattle.xdp_load.specs.declared.original.OriginalPlace.{OriginalPlace as Read}
use Rattle.xdp_commands.specs.Executing.{IsProgramOfBytes, IsRefusalOfBytes}
use Rattle.xdp_commands.specs.Lines.{refused_text}
use Rattle.xdp_commands.specs.declared.comparing.Compared.{Compared}
use Rattle.xdp_commands.specs.declared.comparing.Compared.TheVariants.{Same, SameByCounts, SameAlone, NotShown, Refused, Undecoded}

-- the setup's program has no cause of refusal with its maps, and the original's bytes spell a program
pub record IsPair (r : RewrittenView) (program : Program) (original : List Insn) : Type 0 where
  pub accepted : IsProgramOfBytes r.setup.program r.setup.shapes program
  pub spelled : Spells original r.original

-- a pair in which each has the runs of the other, whatever the rows of the maps' lists and their constants are; the program has
-- `slots` slots, and the original has `originals`
pub record IsSamePair (r : RewrittenView) (slots originals : ℕ) : Type 0 where
  pub program : Program
  pub original : List Insn
  pub pair : IsPair r program original
  pub same : IsSame r.setup.shapes original program.code
  pub whole : IsSame r.setup.shapes program.code original
  pub counted : slots ≡ length program.code
  pub originals_counted : originals ≡ length original

-- a pair in which each has the runs of the other, but that one addition of the program may stand for a load and a store of the
-- original; the program has `slots` slots, and the original has `originals`
pub record IsPairByCounts (r : RewrittenView) (slots originals : ℕ) : Type 0 where
  pub program : Program
  pub original : List Insn
  pub pair : IsPair r program original
  pub counts : IsSameByCounts r.setup.shapes original program.code
  pub whole : IsWholeByCounts r.setup.shapes program.code original
  pub counted : slots ≡ length program.code
  pub originals_counted : originals ≡ length original

-- a pair of which each, if it alone has the counters, ends as the other does and leaves the same in them, whatever stood there before;
-- the program has `slots` slots, and the original has `originals`
pub record IsPairAlone (r : RewrittenView) (slots originals : ℕ) : Type 0 where
  pub program : Program
  pub original : List Insn
  pub pair : IsPair r program original
  pub alone : IsSameAlone r.setup.shapes original program.code
  pub whole : IsSameAlone r.setup.shapes program.code original
  pub counted : slots ≡ length program.code
  pub originals_counted : originals ≡ length original

-- a place, as it is tried
abbrev pub tried : Place → Witness
tried p = record { stutters = p.own; at = p.at }

abbrev pub tried_of : Read → Witness
tried_of p = tried (place_view p)

-- a pair of two programs, of which neither is the other one but for the numbers of its slots, by the places; and where the
-- comparison stops is a slot of the program
pub record IsPairUnshown (r : RewrittenView) (obstacle : Option Obstacle) : Type 0 where
  pub program : Program
  pub original : List Insn
  pub pair : IsPair r program original
  pub other : program.code ≡ original → ⊥
  pub renumbered : IsRenumbering (map tried r.places) original program.code → ⊥
  pub stops : IfSome obstacle (λ (o : Obstacle). o.slot < length program.code)

-- the program is accepted, and the same, or the same by counts, or the same alone, or another one; or it is refused, or the original's
-- bytes are
abbrev pub Compares : RewrittenView → Compared → Type 0
Compares r (Same slots originals) = IsSamePair r slots originals
Compares r (SameByCounts slots originals) = IsPairByCounts r slots originals
Compares r (SameAlone slots originals) = IsPairAlone r slots originals
Compares r (NotShown obstacle) = IsPairUnshown r obstacle
Compares r (Refused refusal) = IsRefusalOfBytes r.setup.program r.setup.shapes refusal
Compares r (Undecoded refusal) = (p : Program) × IsProgramOfBytes r.setup.program r.setup.shapes p × IsNoCode r.original refusal

-- the words for what stands against a proof
abbrev pub obstacle_words : ObstacleKind → List ℕ
obstacle_words kind.Witness = codes "the next place isn't reached"
obstacle_words kind.Instruction = codes "the instructions differ"
obstacle_words kind.Jump = codes "a jump isn't decided"
obstacle_words kind.Registers = codes "too little is known of the registers"

-- the lines where nothing is shown: the second says where the comparison stops, if that is known
abbrev pub not_shown_text : Option Obstacle → List ℕ
not_shown_text None = codes "not shown\n"
not_shown_text (Some o) = codes "not shown\nat slot " ++ (decimal o.slot ++ (codes ", the original at " ++ (decimal o.old ++ (codes ": " ++ (obstacle_words o.kind ++ codes "\n")))))

abbrev pub compared_text : Compared → List ℕ
compared_text (Same slots originals) = codes "same, " ++ (decimal slots ++ (codes " slots for " ++ (decimal originals ++ codes "\n")))
compared_text (SameByCounts slots originals) = codes "same by counts, " ++ (decimal slots ++ (codes " slots for " ++ (decimal originals ++ codes "\n")))
compared_text (SameAlone slots originals) = codes "same alone, " ++ (decimal slots ++ (codes " slots for " ++ (decimal originals ++ codes "\n")))
compared_text (NotShown obstacle) = not_shown_text obstacle
compared_text (Refused refusal) = refused_text refusal
compared_text (Undecoded refusal) = codes "original " ++ refused_text refusal

-- the status: shown, or not
abbrev pub compared_status : Compared → ℕ
compared_status (Same slots originals) = 0
compared_status (SameByCounts slots originals) = 0
compared_status (SameAlone slots originals) = 0
compared_status (NotShown obstacle) = 1
compared_status (Refused refusal) = 1
compared_status (Undecoded refusal) = 1
