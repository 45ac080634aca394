-- For proofs: no claim rests on this file.
-- A draft, as a plan.
use Rattle.bpf_same.specs.declared.fused.Draft.{Draft}
use Rattle.bpf_same.specs.Fused.{Plan}

abbrev pub plan_of : Draft → Plan
plan_of d = record { old = d.old.now; new = d.new.now; live = d.live.now; roles = d.roles.now }
