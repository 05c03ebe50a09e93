mod Maps
