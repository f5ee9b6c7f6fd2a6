-- Groups as they are merged.
use Rattle.std.proofs.Common.{◌≡◌, ◌≢◌, ℕ, ◌<◌, ◌≤◌, ◌+◌, ◌-◌, List, [], ◌++◌, length, set, get_or, sym, ◌∙◌, ap, subst, arith, ⊎_elim, get_or-set_other, get_or-set_same, length-append, length-set, get_or-append-add}
use Rattle.pv_loops.proofs.Words.{cases_eq, cases_lt, get_or_append_left, Groups, leader_of, place_of, group_of, Leads, AreGroups, Relabels, Merges}

-- the list of n is taken and put after that of p, and its nodes get the leader p
pub merges : (old new : Groups) (n p : ℕ) → AreGroups old → Leads old n → Leads old p → n ≢ p
    → (mid : Groups) → mid.leader.items ≡ old.leader.items → mid.place.items ≡ old.place.items → mid.members ≡ set (set old.members n []) p (group_of old p ++ group_of old n)
    → Relabels mid new (group_of old n) (length (group_of old n)) p (length (group_of old p)) → Merges old new n p
merges old new n p A ln lp ne mid leader place members R = record {
  leaders = R.leaders ∙ ap (λ (l : List ℕ). length l) leader;
  places = R.places ∙ ap (λ (l : List ℕ). length l) place;
  lists = ap (λ (l : List (List ℕ)). length l) (R.members ∙ members) ∙ length-set (set old.members n []) p _ ∙ length-set old.members n [];
  moved = λ x h e. let q = in_group x h e in ap (leader_of new) (sym q.1) ∙ R.leader (place_of old x) q.0;
  moved_place = λ x h e. let q = in_group x h e in ap (place_of new) (sym q.1) ∙ R.place (place_of old x) q.0;
  kept = λ x out. R.kept_leader x (λ k h e. out (ap (leader_of old) (sym e) ∙ A.leader n k ln h)) ∙ ap (λ (l : List ℕ). get_or l x 0) leader;
  kept_place = λ x out. R.kept_place x (λ k h e. out (ap (leader_of old) (sym e) ∙ A.leader n k ln h)) ∙ ap (λ (l : List ℕ). get_or l x 0) place;
  joined = ap (λ (l : List (List ℕ)). get_or l p []) (R.members ∙ members) ∙ get_or-set_same (set old.members n []) p _ [] (omega (arith, length-set old.members n [], A.lists, lp.0));
  others = λ l no_n no_p. ap (λ (m : List (List ℕ)). get_or m l []) (R.members ∙ members) ∙ get_or-set_other (set old.members n []) p l _ [] no_p ∙ get_or-set_other old.members n l [] [] no_n;
}
  where
    in_group : (x : ℕ) → x < length old.leader.items → leader_of old x ≡ n → (place_of old x < length (group_of old n)) × (get_or (group_of old n) (place_of old x) 0 ≡ x)
    in_group x h e = (subst (λ v. place_of old x < length (group_of old v)) e (A.at x h), subst (λ v. get_or (group_of old v) (place_of old x) 0 ≡ x) e (A.listed x h))

-- where a node of a group that stays is
pub stays : (old new : Groups) (n p l : ℕ) → AreGroups old → Leads old p → n ≢ p → Merges old new n p → Leads new l → (l ≢ n) × (leader_of old l ≡ l) × (l < length old.leader.items)
stays old new n p l A lp ne M ll = (not_n, own, within)
  where
    within : l < length old.leader.items
    within = omega (arith, M.leaders, ll.0)

    led_other : leader_of old l ≢ n → leader_of old l ≡ l
    led_other e = sym (M.kept l e) ∙ ll.1

    own : leader_of old l ≡ l
    own = ⊎_elim
        (λ (e : leader_of old l ≡ n). let at : l ≡ p = sym ll.1 ∙ M.moved l within e in absurd (ne (sym e ∙ ap (leader_of old) at ∙ lp.1)))
        led_other
        (cases_eq (leader_of old l) n)

    not_n : l ≢ n
    not_n e = ne (sym e ∙ sym ll.1 ∙ M.moved l within (own ∙ e))

-- merged groups are groups
pub merged_groups : (old new : Groups) (n p : ℕ) → AreGroups old → Leads old n → Leads old p → n ≢ p → Merges old new n p → AreGroups new
merged_groups old new n p A ln lp ne M = record {
  places = M.places ∙ A.places ∙ sym M.leaders;
  lists = M.lists ∙ A.lists ∙ sym M.leaders;
  led = λ x h. let o : x < length old.leader.items = omega (arith, M.leaders) in ⊎_elim
      (λ (e : leader_of old x ≡ n). subst (λ v. Leads new v) (sym (M.moved x o e)) p_leads)
      (λ (e : leader_of old x ≢ n). subst (λ v. Leads new v) (sym (M.kept x e)) (still (leader_of old x) (A.led x o) e))
      (cases_eq (leader_of old x) n);
  at = λ x h. (found x (omega (arith, M.leaders))).0;
  listed = λ x h. (found x (omega (arith, M.leaders))).1;
  node = λ l k ll h. let q = held l k ll h in omega (arith, M.leaders, q.0);
  leader = λ l k ll h. (held l k ll h).1;
  place = λ l k ll h. (held l k ll h).2;
  first = λ l ll. let q = stays old new n p l A lp ne M ll in M.kept_place l (λ e. q.0 (sym q.1 ∙ e)) ∙ A.first l (q.2, q.1);
}
  where
    still : (l : ℕ) → Leads old l → l ≢ n → Leads new l
    still l ll e = (omega (arith, M.leaders, ll.0), M.kept l (λ q. e (sym ll.1 ∙ q)) ∙ ll.1)

    p_leads : Leads new p
    p_leads = still p lp (λ e. ne (sym e))

    -- each node stands in the list of its leader
    found : (x : ℕ) → x < length old.leader.items → (place_of new x < length (group_of new (leader_of new x))) × (get_or (group_of new (leader_of new x)) (place_of new x) 0 ≡ x)
    found x h = ⊎_elim
        (λ (e : leader_of old x ≡ n).
        let a : place_of old x < length (group_of old n) = subst (λ v. place_of old x < length (group_of old v)) e (A.at x h) in
        let b : get_or (group_of old n) (place_of old x) 0 ≡ x = subst (λ v. get_or (group_of old v) (place_of old x) 0 ≡ x) e (A.listed x h) in
        let g : group_of new (leader_of new x) ≡ group_of old p ++ group_of old n = ap (group_of new) (M.moved x h e) ∙ M.joined in
        let k : place_of new x ≡ length (group_of old p) + place_of old x = M.moved_place x h e in (
          subst (λ (l : List ℕ). place_of new x < length l) (sym g) (omega (arith, k, a, length-append (group_of old p) (group_of old n))),
          ap (λ (l : List ℕ). get_or l (place_of new x) 0) g ∙ ap (λ v. get_or (group_of old p ++ group_of old n) v 0) k ∙ get_or-append-add (group_of old p) (group_of old n) (place_of old x) 0 ∙ b,
        ))
        (λ (e : leader_of old x ≢ n).
        let k : place_of new x ≡ place_of old x = M.kept_place x e in
        let a = A.at x h in
        let b = A.listed x h in ⊎_elim
        (λ (at_p : leader_of old x ≡ p).
        let g : group_of new (leader_of new x) ≡ group_of old p ++ group_of old n = ap (group_of new) (M.kept x e ∙ at_p) ∙ M.joined in
        let a_p : place_of old x < length (group_of old p) = subst (λ v. place_of old x < length (group_of old v)) at_p a in (
          subst (λ (l : List ℕ). place_of new x < length l) (sym g) (omega (arith, k, a_p, length-append (group_of old p) (group_of old n))),
          ap (λ (l : List ℕ). get_or l (place_of new x) 0) g ∙ ap (λ v. get_or (group_of old p ++ group_of old n) v 0) k ∙ get_or_append_left (group_of old p) (group_of old n) 0 (place_of old x) a_p ∙ subst (λ v. get_or (group_of old v) (place_of old x) 0 ≡ x) at_p b,
        ))
        (λ (not_p : leader_of old x ≢ p).
        let g : group_of new (leader_of new x) ≡ group_of old (leader_of old x) = ap (group_of new) (M.kept x e) ∙ M.others (leader_of old x) e not_p in (
          subst (λ (l : List ℕ). place_of new x < length l) (sym g) (omega (arith, k, a)),
          ap (λ (l : List ℕ). get_or l (place_of new x) 0) g ∙ ap (λ v. get_or (group_of old (leader_of old x)) v 0) k ∙ b,
        ))
        (cases_eq (leader_of old x) p))
        (cases_eq (leader_of old x) n)

    -- each place of a list has one of its leader's nodes
    held_kept : (l k : ℕ) → Leads old l → l ≢ n → k < length (group_of old l) → (get_or (group_of old l) k 0 < length old.leader.items) × (leader_of new (get_or (group_of old l) k 0) ≡ l) × (place_of new (get_or (group_of old l) k 0) ≡ k)
    held_kept l k ll e h = let at = A.leader l k ll h in let out : leader_of old (get_or (group_of old l) k 0) ≢ n = λ q. e (sym at ∙ q) in (A.node l k ll h, M.kept _ out ∙ at, M.kept_place _ out ∙ A.place l k ll h)

    held_moved : (k : ℕ) → k < length (group_of old n) → (get_or (group_of old n) k 0 < length old.leader.items) × (leader_of new (get_or (group_of old n) k 0) ≡ p) × (place_of new (get_or (group_of old n) k 0) ≡ length (group_of old p) + k)
    held_moved k h = let at = A.leader n k ln h in let in' = A.node n k ln h in (in', M.moved _ in' at, M.moved_place _ in' at ∙ ap (λ v. length (group_of old p) + v) (A.place n k ln h))

    held : (l k : ℕ) → Leads new l → k < length (group_of new l) → (get_or (group_of new l) k 0 < length old.leader.items) × (leader_of new (get_or (group_of new l) k 0) ≡ l) × (place_of new (get_or (group_of new l) k 0) ≡ k)
    held l k ll h = let q = stays old new n p l A lp ne M ll in ⊎_elim
        (λ (e : l ≡ p).
        let g : group_of new l ≡ group_of old p ++ group_of old n = ap (group_of new) e ∙ M.joined in
        let h' : k < length (group_of old p) + length (group_of old n) = omega (arith, ap (λ (xs : List ℕ). length xs) g, length-append (group_of old p) (group_of old n)) in ⊎_elim
        (λ (front : k < length (group_of old p)).
        let x : get_or (group_of new l) k 0 ≡ get_or (group_of old p) k 0 = ap (λ (xs : List ℕ). get_or xs k 0) g ∙ get_or_append_left (group_of old p) (group_of old n) 0 k front in
        subst (λ v. (v < length old.leader.items) × (leader_of new v ≡ l) × (place_of new v ≡ k)) (sym x) (let r = held_kept p k lp (λ z. ne (sym z)) front in (r.0, r.1 ∙ sym e, r.2)))
        (λ (back : length (group_of old p) ≤ k).
        let j : ℕ = k - length (group_of old p) in
        let is : length (group_of old p) + j ≡ k = omega arith in
        let x : get_or (group_of new l) k 0 ≡ get_or (group_of old n) j 0 = ap (λ (xs : List ℕ). get_or xs k 0) g ∙ ap (λ v. get_or (group_of old p ++ group_of old n) v 0) (sym is) ∙ get_or-append-add (group_of old p) (group_of old n) j 0 in
        subst (λ v. (v < length old.leader.items) × (leader_of new v ≡ l) × (place_of new v ≡ k)) (sym x) (let r = held_moved j (omega arith) in (r.0, r.1 ∙ sym e, r.2 ∙ is)))
        (cases_lt k (length (group_of old p))))
        (λ (e : l ≢ p).
        let g : group_of new l ≡ group_of old l = M.others l q.0 e in
        subst (λ (xs : List ℕ). (get_or xs k 0 < length old.leader.items) × (leader_of new (get_or xs k 0) ≡ l) × (place_of new (get_or xs k 0) ≡ k)) (sym g) (held_kept l k (q.2, q.1) q.0 (subst (λ (xs : List ℕ). k < length xs) g h)))
        (cases_eq l p)
