use Rattle.std.proofs.Common.{◌≡◌, ◌++◌, drop, string_bytes}
use Rattle.bpf_explain.specs.Listing.{listing_text}
use Rattle.bpf_explain.proofs.listing.add_listing.Given as goal

abbrev pub invariant-loop-insn : goal.invariant-loop-insn
invariant-loop-insn l =
    record {
      number : l.pc ≡ l.insn-index;
      text : string_bytes l.text ++ listing_text l.marked l.below l.pc (drop l.insn-index l.code) ≡ string_bytes l.fn.text ++ listing_text l.marked l.below 0 l.code;
    }
