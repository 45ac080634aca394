-- Stated: claims rest on this file.
-- The words of a packet that go into a page.
use Rattle.std.specs.Prelude.{ℕ, zero, suc, ◌+◌, List, [], ◌∷◌}
use Rattle.xen_rx_fill.specs.Packets.{word_of}

-- n words of a packet from the k-th on
abbrev pub packet_words : List ℕ → ℕ → ℕ → List ℕ
packet_words packet k zero = []
packet_words packet k (suc n) = word_of packet k ∷ packet_words packet (k + 1) n
