-- How orders, openings and fates are printed.
use Rattle.std.specs.Prelude.{ℕ, cond, List, [], ◌++◌, ◌==◌, codes, decimal, flat_map, encode_utf8}
use Rattle.std.specs.Int.{w64, to_be_bytes}
use Rattle.meaning.specs.declared.fate.Fate.{Fate}
use Rattle.meaning.specs.declared.fate.Fate.TheVariants.{Live, Posted, Voided, Lapsed}
use Rattle.meaning.specs.declared.opening.Opening.{Opening}
use Rattle.meaning.specs.declared.order.Action.{Action}
use Rattle.meaning.specs.declared.order.Action.TheVariants.{Transfer, Reserve, Post, Void}
use Rattle.meaning.specs.declared.order.Order.{Order}

abbrev pub fate_text : Fate → List ℕ
fate_text Live = codes "live"
fate_text Posted = codes "posted"
fate_text Voided = codes "voided"
fate_text Lapsed = codes "lapsed"

abbrev pub action_text : ℕ → Action → List ℕ
action_text n (Transfer d c z) = codes "transfer " ++ (decimal n ++ (codes ": " ++ (decimal z ++ (codes " from " ++ (decimal d ++ (codes " to " ++ decimal c))))))
action_text n (Reserve d c z s) =
    codes "reserve " ++ (decimal n ++ (codes ": " ++ (decimal z ++ (codes " from " ++ (decimal d ++ (codes " to " ++ (decimal c ++ (codes " for " ++ (decimal s ++ codes " s")))))))))
action_text n (Post r z) = codes "post " ++ (decimal n ++ (codes ": " ++ (decimal z ++ (codes " of " ++ decimal r))))
action_text n (Void r) = codes "void " ++ (decimal n ++ (codes ": " ++ decimal r))

abbrev pub order_text : Order → List ℕ
order_text o = action_text o.number o.action ++ cond o.linked (codes ", linked") []

-- a label as it stands, or what a malformed one has in its place: each byte but spaces, as a character
abbrev pub letters : List ℕ → List ℕ
letters bs = flat_map (λ b. cond (b == 32) [] (encode_utf8 b)) bs

abbrev pub opening_start : Opening → List ℕ
opening_start A =
    codes "open " ++ (decimal A.number ++ (codes ": ledger " ++ (decimal A.ledger ++ (codes ", class " ++ (decimal A.class ++ (codes ", limit " ++ (decimal A.limit ++ codes ", label ")))))))

abbrev pub opening_text : Opening → List ℕ
opening_text A = opening_start A ++ letters (to_be_bytes w64 A.label)
