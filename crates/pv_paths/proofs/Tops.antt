-- The tops of trees at some time are linked to the nodes below them.
use Rattle.std.specs.Prelude.{◌≡◌, ℕ, zero, suc, ◌+◌, ◌<◌, ◌≤◌, List, [], ◌∷◌, ◌++◌, length, Result, Ok, Err, IfOk}
use Rattle.std.proofs.Common.{inl, inr, refl, sym, ◌∙◌, subst, arith}
use Rattle.std.proofs.lemmas.Option.{slice_get_within}
use Rattle.pv_paths.specs.declared.forest.Link.{Link}
use Rattle.pv_paths.specs.Paths.{Way, AreLinked, AreTops, Crosses, Leads}
use Rattle.pv_paths.specs.Trees.{Links, AreTopsAt, Climbs, stop, go, IsForest, up_way}
use Rattle.pv_paths.proofs.Climbing.{climbs_once}
use Rattle.pv_paths.proofs.Newest.{crosses_at, crosses_low}
use Rattle.pv_paths.proofs.Legs.{leads_append, leads_back}
use Rattle.pv_paths.proofs.Uniting.{leads_met, longer, there_cases}

-- ---- the way upwards is a path

leads_later : (ends : List (ℕ × ℕ)) (t u : ℕ) (ws : List Way) (a b : ℕ) → t ≤ u → Leads ends t ws a b → Leads ends u ws a b
leads_later ends t u [] a b low h = h
leads_later ends t u (w ∷ ws) a b low h = (h.0, crosses_at ends t u w a h.0 h.1 (let z = crosses_low ends t w a h.0 h.1 in omega (arith, z, low)), leads_later ends t u ws h.0 b low h.2)

-- up by one link: the join that made it links the trees of the two nodes
link_leads : (links : Links) (ends : List (ℕ × ℕ)) (t n s : ℕ) (l : Link) (x y : ℕ) → l.join < t → Crosses ends (suc l.join) (up_way l) x y → AreLinked ends l.join x n → AreLinked ends l.join y l.up → AreLinked ends t l.up s → AreLinked ends t n s
link_leads links ends t n s l x y low crosses first second rest =
    let back = leads_back ends l.join first.0 x n first.1 in (
      back.0 ++ up_way l ∷ (second.0 ++ rest.0),
      leads_append ends t back.0 (up_way l ∷ (second.0 ++ rest.0)) n x s (leads_later ends l.join t back.0 n x (omega (arith, low)) back.1) (
        y,
        crosses_at ends (suc l.join) t (up_way l) x y crosses (let z = crosses_low ends (suc l.join) (up_way l) x y crosses in omega (arith, z, low)),
        leads_append ends t second.0 rest.0 y l.up s (leads_later ends l.join t second.0 y l.up (omega (arith, low)) second.1) rest.1,
      ),
    )

climbs_along : (links : Links) (ends : List (ℕ × ℕ)) → IsForest links ends → (t : ℕ) → ((u a r : ℕ) → u < t → Climbs links u a r → AreLinked ends u a r) → (a r : ℕ) → Climbs links t a r → AreLinked ends t a r
climbs_along links ends f t before a r (stop b s e h) = ([], e)
climbs_along links ends f t before a r (go b s l h low c) =
    let z = f.tied b l h in link_leads links ends t b s l z.0 z.1 low z.2 (before l.join z.0 b low z.3) (before l.join z.1 l.up low z.4) (climbs_along links ends f t before l.up s c)

climbs_by : (links : Links) (ends : List (ℕ × ℕ)) → IsForest links ends → (fuel t : ℕ) → t ≤ fuel → (a r : ℕ) → Climbs links t a r → AreLinked ends t a r
climbs_by links ends f zero t low a r c = climbs_along links ends f t (λ u b s less d. absurd (omega (arith, low, less))) a r c
climbs_by links ends f (suc fuel) t low a r c = climbs_along links ends f t (λ u b s less d. climbs_by links ends f fuel u (omega (arith, low, less)) b s d) a r c

pub climbs_linked : (links : Links) (ends : List (ℕ × ℕ)) → IsForest links ends → (t a r : ℕ) → Climbs links t a r → AreLinked ends t a r
climbs_linked links ends f t a r c = climbs_by links ends f t t (omega arith) a r c

-- ---- tops

pub no_tops : (links : Links) (before : ℕ) → AreTopsAt links before 0 []
no_tops links before = record {
  long = refl;
  each = λ n r e. absurd (let z = slice_get_within {A = ℕ} [] n r e in omega (arith, z));
  low = λ n r e. absurd (let z = slice_get_within {A = ℕ} [] n r e in omega (arith, z));
}

-- one more
pub tops_more : (links : Links) (before n r : ℕ) (tops new : List ℕ) → new ≡ tops ++ r ∷ [] → AreTopsAt links before n tops → Climbs links before n r → r < length links → AreTopsAt links before (n + 1) new
tops_more links before n r tops new e h c low = subst (AreTopsAt links before (n + 1)) (sym e) (record {
  long = let z = longer {A = ℕ} tops r in let y = h.long in omega (arith, z, y);
  each = λ m s at. elim (there_cases {A = ℕ} tops r s m at) [ inl f ↦ h.each m s f | inr f ↦ subst (λ (k : ℕ). Climbs links before k s) (sym (f.0 ∙ h.long)) (subst (Climbs links before n) (sym f.1) c) ];
  low = λ m s at. elim (there_cases {A = ℕ} tops r s m at) [ inl f ↦ h.low m s f | inr f ↦ subst (λ (k : ℕ). k < length links) (sym f.1) low ];
})

pub tops_are : (links : Links) (ends : List (ℕ × ℕ)) (before nodes : ℕ) (tops : List ℕ) → IsForest links ends → AreTopsAt links before nodes tops → AreTops (record { nodes = length links; ends = ends }) before nodes tops
tops_are links ends before nodes tops f h = record {
  long = h.long;
  low = h.low;
  linked = λ n r e. climbs_linked links ends f before n r (h.each n r e);
  one = λ a b r s l e g.
      let m = leads_met links ends f before l.0 a b l.1 in
      climbs_once links before a r m.0 (h.each a r e) m.1 ∙ climbs_once links before b m.0 s m.2 (h.each b s g);
}

pub tops_ok : {T E : Type 0} → (links here : Links) (ends : List (ℕ × ℕ)) (before nodes : ℕ) (items : T → List ℕ) (r : Result T E) → IsForest links ends → here ≡ links → IfOk r (λ t. AreTopsAt here before nodes (items t))
    → IfOk r (λ t. AreTops (record { nodes = length links; ends = ends }) before nodes (items t))
tops_ok links here ends before nodes items (Ok t) f e h = tops_are links ends before nodes (items t) f (subst (λ (ls : Links). AreTopsAt ls before nodes (items t)) e h)
tops_ok links here ends before nodes items (Err e') f e h = tt
