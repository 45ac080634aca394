-- Stated: claims rest on this file.
-- A packet that leaves the frontend nothing: its slots, its buffers and its responses, without a word of offloads.
use Rattle.std.specs.Prelude.{ℕ, ◌≡◌, ◌+◌, ◌/◌, ◌%◌, Bool, false, List, nat_lt}
use Rattle.xen_netif.specs.Slots.{rx_rsp_words}
use Rattle.xen_netif.specs.declared.offload.RxOffload.TheVariants.{Whole}
use Rattle.xen_netif.specs.declared.rx.RxRsp.{RxRsp}
use Rattle.xen_steps.specs.Places.{page_word}
use Rattle.xen_rx_fill.specs.Packets.{buffer_word, frame_in, pages, response_words, slots, status_at, target_at}
use Rattle.xen_rx_fill.specs.declared.target.Grants.{Grants}
use Rattle.xen_rx_fill.specs.declared.target.Grants.TheVariants.{Passed, Refused}
use Rattle.xen_rx_fill.specs.declared.target.Target.{Target}

abbrev pub is_followed : Grants → ℕ → ℕ → Bool
is_followed Passed n i = nat_lt (i + 1) n
is_followed Refused n i = false

-- the i-th of n responses
abbrev pub plain_response : Grants → List ℕ → ℕ → ℕ → ℕ → RxRsp
plain_response grants packet n i id =
    record {
      id = id;
      offset = 0;
      flags = record {
        data_validated = false;
        csum_blank = false;
        more_data = is_followed grants n i;
        extra_info = false;
        gso_prefix = false;
      };
      status = status_at grants packet i;
    }

abbrev pub PlainSlots : Type 0
PlainSlots = (packet : List ℕ) → slots Whole packet ≡ pages packet

abbrev pub PlainBuffers : Type 0
PlainBuffers = (ts : List Target) (k : ℕ) → buffer_word Whole ts k ≡ page_word (frame_in (target_at ts (k / 1024)).frame) (k % 1024)

abbrev pub PlainResponses : Type 0
PlainResponses = (grants : Grants) (packet : List ℕ) (n i id : ℕ) →
    response_words Whole grants packet n i id ≡ rx_rsp_words (plain_response grants packet n i id)
