mod ContentRaces
