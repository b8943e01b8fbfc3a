-- Numbers in the lanes of words: what a reader has to believe. Laws are in proofs/. (`Leading` is cited by a private function alone.)
pub mod Lanes
pub mod Leading
