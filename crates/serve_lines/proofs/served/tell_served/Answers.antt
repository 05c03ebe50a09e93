use Rattle.serve_lines.proofs.served.tell_served.Goals as goal

pub returns-clause-sends : goal.returns-clause-sends
returns-clause-sends g c =
    c.send_more.ensures.sends _ _ (c.send_number-entries.ensures.sends _ _ (c.send_more-behind.ensures.sends _ _ (c.send_number-requests.ensures.sends _ _ (c.send_more-named.ensures.sends _ _ (c.send_number-sessions.ensures.sends _ _ c.send_all-begun.ensures.sends)))))
